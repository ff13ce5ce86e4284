-- A decision on an image keeps the equality, and accepted calls on images keep it with all that it needs.
use Rattle.std.specs.Prelude.{if◌then◌else◌, Err, Ok, Result}
use mathlib.Core.Path.{◌≡◌, refl, sym, subst}
use mathlib.Core.Bool.{Bool, true, false}
use mathlib.Core.List.{List, [], ◌∷◌}
use Prim.Native.Nat.{ℕ}
use native.Mathlib.Omega.{arith}
use lib.Dec.{eqb}
use borrow.Author.Tests.{eqb-true, eqb-false}
use Rattle.cpu_set.specs.Members.{members}
use Rattle.context.specs.declared.Status.TheVariants.{Blocked, Stopped}
use Rattle.answer.specs.declared.Answer.{Answer}
use Rattle.machine.specs.Machine.{Machine}
use Rattle.machine.specs.Encode.{decode}
use Rattle.machine.specs.LookUp.{look_up, get_percpu_block}
use Rattle.image.proofs.Admitted as admitted
use Rattle.image.specs.Refusal.{size_c, size_n}
use Rattle.admission.proofs.Soundness.{sound}
use Rattle.model.specs.Tidy.{Tidy}
use Rattle.model.specs.Accepted.{Call, by_tick, by_switch, by_direct_switch, outcome, decides, ServesOwn}
use Rattle.model_leaves.proofs.Decoding.{well_formed}
use Rattle.model_leaves.proofs.Operations.{unblock_leaves, block_leaves}
use Rattle.context_ops.specs.Named.{named}
use Rattle.context_ops.specs.Operations.{unblock_context, drain_ipi_context_wakeups, block, hard_block}
use Rattle.context_ops.specs.Reply.{Reply, reply}
use Rattle.group_ops.specs.Group.{unblock_each, unblock_group}
use Rattle.model_weights.specs.Weighed.{Weighed, Agree}
use Rattle.model_weights.specs.Runs.{Steady}
use Rattle.model_weights.proofs.Decision.{decides_agree}
use Rattle.model_weights.proofs.Steadiness.{untouched_steady, call_steady}
use Rattle.model_weights.proofs.Operations.{block_untouched, drain_untouched, unblock_untouched, group_untouched}
use Rattle.calls.specs.Call.{check, checked_by, tick_call, switch_call, direct_switch_to_call, unblock_context_call, drain_ipi_context_wakeups_call, block_call, hard_block_call, unblock_group_call, call}
use Rattle.ronthuyal.specs.Demand.{StandsFor}
use Rattle.calls.proofs.Accepts.{refused_not}
use Rattle.ronthuyal.proofs.Demanded.{stands_tick, stands_switch, stands_direct, stands_none}
use Rattle.calls.proofs.Called.{is_refused, call_none}
use Rattle.ronthuyal.proofs.Left.{through}
use Rattle.call_weights.specs.Kept.{WeightKept, ImageCall, operation_call, group_call, AcceptedRun, image_after}
use Rattle.call_weights.proofs.Came.{Came, by, to, drained, called, grouped}

module _ (a : Answer) (m m' : List ℕ) (cpu time context : ℕ) (z : a.refusal ≡ 0) where
  abbrev M : Machine
  M = decode m

  -- the machine that each operation leaves
  pub ticks : reply a m' ≡ tick_call m cpu time → Came m m' cpu time (outcome by_tick cpu time M).machine
  ticks = through a m m' cpu time context z _ (λ p. by a m m' time z p cpu by_tick tt (get_percpu_block M cpu) refl)

  pub switches : reply a m' ≡ switch_call m cpu time → Came m m' cpu time (outcome by_switch cpu time M).machine
  switches = through a m m' cpu time context z _ (λ p. by a m m' time z p cpu by_switch tt (get_percpu_block M cpu) refl)

  pub direct_switches : reply a m' ≡ direct_switch_to_call m cpu time context → Came m m' cpu time (outcome (by_direct_switch context) cpu time M).machine
  direct_switches = through a m m' cpu time context z _ (λ p. to a m m' time z p cpu context (look_up M context) refl)

  pub unblocks : reply a m' ≡ unblock_context_call m cpu time context → Came m m' cpu time (unblock_context cpu context M).machine
  unfolding named
  unblocks =
      through a m m' cpu time context z _
      (λ p. called a m m' time z p cpu context _ (λ k x h e o. unblock_leaves (size_c m) (size_n m) k x M (well_formed m p) h e o) (get_percpu_block M cpu) refl)

  pub drains : reply a m' ≡ drain_ipi_context_wakeups_call m cpu time → Came m m' cpu time (drain_ipi_context_wakeups cpu M).machine
  drains = through a m m' cpu time context z _ (λ p. drained a m m' time z p cpu (get_percpu_block M cpu) refl)

  pub blocks : reply a m' ≡ block_call m cpu time context → Came m m' cpu time (block context M).machine
  unfolding named
  blocks =
      through a m m' cpu time context z _
      (λ p. called a m m' time z p cpu context _ (λ k x h e o y. block_leaves (size_c m) (size_n m) M (well_formed m p) Blocked x o) (get_percpu_block M cpu) refl)

  pub hard_blocks : reply a m' ≡ hard_block_call m cpu time context → Came m m' cpu time (hard_block context M).machine
  unfolding named
  hard_blocks =
      through a m m' cpu time context z _
      (λ p. called a m m' time z p cpu context _ (λ k x h e o y. block_leaves (size_c m) (size_n m) M (well_formed m p) Stopped x o) (get_percpu_block M cpu) refl)

  -- one test of the chain
  pub one_of : {A : Type 0} (b : Bool) (x y : Reply) → (b ≡ true → reply a m' ≡ x → A) → (b ≡ false → reply a m' ≡ y → A) → reply a m' ≡ (if b then x else y) → A
  one_of true x y f g e = f refl e
  one_of false x y f g e = g refl e

  -- a call that decides, or may decide
  stays : (c : Call) → (decides cpu time M c ≡ true → ServesOwn cpu time M) → Steady M → Came m m' cpu time (outcome c cpu time M).machine → Steady (decode m')
  stays c own s w = subst Steady (sym w.is) (call_steady c cpu time M (sound m w.passed) w.present own s)

  abbrev Served : ℕ → Type 0
  Served operation = (c : Call) → StandsFor operation context c → decides cpu time M c ≡ true → ServesOwn cpu time M

  pub call_steadies : (operation : ℕ) → Served operation → Steady M → reply a m' ≡ call m operation cpu time context → Steady (decode m')
  unfolding call
  call_steadies operation own s =
      one_of (eqb operation 1) _ _ (λ t e. stays by_tick (own by_tick (eqb-true operation 1 t)) s (ticks e))
      (λ t. one_of (eqb operation 2) _ _ (λ t e. stays by_switch (own by_switch (eqb-true operation 2 t)) s (switches e))
      (λ t. one_of (eqb operation 3) _ _ (λ t e. stays (by_direct_switch context) (own (by_direct_switch context) (eqb-true operation 3 t, refl)) s (direct_switches e))
      (λ t. one_of (eqb operation 4) _ _ (λ t e. subst Steady (sym (unblocks e).is) (untouched_steady M _ (unblock_untouched cpu context M) s))
      (λ t. one_of (eqb operation 5) _ _ (λ t e. subst Steady (sym (drains e).is) (untouched_steady M _ (drain_untouched cpu M) s))
      (λ t. one_of (eqb operation 6) _ _ (λ t e. subst Steady (sym (blocks e).is) (untouched_steady M _ (block_untouched Blocked context M) s))
      (λ t. one_of (eqb operation 7) _ _ (λ t e. subst Steady (sym (hard_blocks e).is) (untouched_steady M _ (block_untouched Stopped context M) s))
      (λ t. through a m m' cpu time context z _ (λ p e. refused_not 5 m (λ w. omega arith) e z))))))))

  pub group_checked : (mask : ℕ) (w : Result (ℕ × ℕ) ℕ) → w ≡ check m time → reply a m' ≡ checked_by m (λ (N : Machine). unblock_group m N cpu mask) w
      → Came m m' cpu time (unblock_each cpu (members mask) M).machine
  unfolding checked_by unblock_group
  group_checked mask (Err r) h e = refused_not r m (is_refused m time r h) e z
  group_checked mask (Ok (c, n)) h e =
      let none = call_none m time (Ok (c, n)) h c n refl in grouped a m m' time z (admitted.passed time m none) none cpu mask (get_percpu_block M cpu) refl e

  pub group_steadies : Steady M → (mask : ℕ) → reply a m' ≡ unblock_group_call m cpu time mask → Steady (decode m')
  group_steadies s mask e =
      subst Steady (sym (group_checked mask (check m time) refl e).is) (untouched_steady M _ (group_untouched cpu (members mask) M) s)

  -- a decision
  agrees : (c d : Call) → c ≡ d → Tidy M → decides cpu time M c ≡ true → ServesOwn cpu time M → Weighed M → Agree M → Came m m' cpu time (outcome d cpu time M).machine → Agree (decode m')
  agrees c d q T y own W A w =
      subst Agree (sym w.is) (decides_agree d cpu time M (sound m w.passed) T w.present (subst (λ (x : Call). decides cpu time M x ≡ true) q y) own W A)

  pub decision_kept : (operation : ℕ) (c : Call) → StandsFor operation context c → Tidy M → decides cpu time M c ≡ true → ServesOwn cpu time M → Weighed M → Agree M
      → reply a m' ≡ call m operation cpu time context → Agree (decode m')
  unfolding call
  decision_kept operation c s T y own W A =
      one_of (eqb operation 1) _ _ (λ t e. agrees c by_tick (stands_tick context c (rw (eqb-true operation 1 t) at s)) T y own W A (ticks e))
      (λ n₁. one_of (eqb operation 2) _ _ (λ t e. agrees c by_switch (stands_switch context c (rw (eqb-true operation 2 t) at s)) T y own W A (switches e))
      (λ n₂. one_of (eqb operation 3) _ _ (λ t e. agrees c (by_direct_switch context) (stands_direct context c (rw (eqb-true operation 3 t) at s)) T y own W A (direct_switches e))
      (λ n₃ e. absurd (stands_none operation context (eqb-false operation 1 n₁) (eqb-false operation 2 n₂) (eqb-false operation 3 n₃) c s))))

-- of every image, operation, CPU, time and context
pub weight_kept : {a : Answer} {m' : List ℕ} (m : List ℕ) (operation cpu time context : ℕ) → reply a m' ≡ call m operation cpu time context
    → WeightKept m m' operation cpu time context a.refusal
weight_kept {a} {m'} m operation cpu time context e =
    record { kept = λ c s z T y own W A. decision_kept a m m' cpu time context z operation c s T y own W A e }

-- a run of any length
pub run_steady : (m : List ℕ) (cs : List ImageCall) → AcceptedRun m cs → Steady (decode m) → Steady (decode (image_after m cs))
run_steady m [] w s = s
run_steady m (operation_call operation cpu time context ∷ cs) w s =
    run_steady (call m operation cpu time context).image cs w.2 (call_steadies _ m _ cpu time context w.0 operation w.1 s refl)
run_steady m (group_call cpu time mask ∷ cs) w s =
    run_steady (unblock_group_call m cpu time mask).image cs w.2 (group_steadies _ m _ cpu time 0 w.0 s mask refl)
