-- What an accepted call leaves: of the definitions, and as the calls promise it. Assumes nothing.
use Rattle.std.specs.Prelude.{if◌then◌else◌, Err, Ok, Result}
use mathlib.Core.Path.{◌≡◌, refl, sym, ◌∙◌, subst}
use mathlib.Core.Bool.{Bool, true, false}
use Prim.Native.Nat.{ℕ, ◌≤◌}
use native.Mathlib.Omega.{arith}
use mathlib.Core.List.{List}
use lib.Dec.{eqb}
use lib.ListN.{get_or}
use mir.Syntax.{w64}
use mir.Val.{Fits}
use Rattle.context.specs.declared.Status.TheVariants.{Blocked, Stopped}
use Rattle.machine.specs.Machine.{Machine}
use Rattle.machine.specs.Encode.{decode}
use Rattle.machine.specs.LookUp.{look_up, get_percpu_block}
use Rattle.image.specs.Refusal.{size_c, size_n, image_refusal}
use Rattle.image.specs.Raised.{RaisedAtMost}
use Rattle.image.proofs.Admitted as admitted
use Rattle.model.specs.Accepted.{by_tick, by_switch}
use Rattle.model_leaves.proofs.Structured.{structured}
use Rattle.model_leaves.proofs.Passing.{MachineRaised, cpus_are, names_are, length_is, words_raised, in_ranges, passes}
use Rattle.answer.specs.declared.Answer.{Answer}
use Rattle.context_ops.specs.Named.{named}
use Rattle.context_ops.specs.Reply.{Reply, reply}
use Rattle.calls.specs.Call.{check, checked, checked_by, tick_call, switch_call, direct_switch_to_call, unblock_context_call, drain_ipi_context_wakeups_call, block_call, hard_block_call, call}
use Rattle.ronthuyal.specs.Demand.{DemandMet}
use Rattle.ronthuyal.specs.Leaves.{Left, Leaves}
use Rattle.ronthuyal.proofs.Dispatched.{is_tick, is_switch, is_direct_switch_to}
use Rattle.calls.proofs.Called.{is_refused, call_none}
use Rattle.calls.proofs.Accepts.{refused_not}
use Rattle.ronthuyal.proofs.Leaving.{Formed, Unraised, unraised_formed, by, directly, on, to, block_in_range, unblock_in_range}
use Rattle.numbers.specs.Limits.{max_number, max_word}

module _ (a : Answer) (m m' : List ℕ) (cpu time context : ℕ) (z : a.refusal ≡ 0) where
  -- the check comes first
  past_check : {A : Type 0} (f : Machine → Reply) → ((p : admitted.Passed time m) → reply a m' ≡ f (decode m) → A) → (w : Result (ℕ × ℕ) ℕ) → w ≡ check m time
      → reply a m' ≡ checked_by m f w → A
  unfolding checked_by
  past_check f g (Err r) h e = refused_not r m (is_refused m time r h) e z
  past_check f g (Ok (c, n)) h e = g (admitted.passed time m (call_none m time (Ok (c, n)) h c n refl)) e

  pub through : {A : Type 0} (f : Machine → Reply) → ((p : admitted.Passed time m) → reply a m' ≡ f (decode m) → A) → reply a m' ≡ checked m time f → A
  through f g e = past_check f g (check m time) refl e

  abbrev c : ℕ
  c = size_c m

  abbrev n : ℕ
  n = size_n m

  unblocks : reply a m' ≡ unblock_context_call m cpu time context → Unraised c n m'
  unfolding named
  unblocks = through _ (λ p. to a m m' time z p cpu context _ (unblock_in_range a m m' time z p) (get_percpu_block (decode m) cpu) refl)

  drains : reply a m' ≡ drain_ipi_context_wakeups_call m cpu time → Unraised c n m'
  drains = through _ (λ p. on a m m' time z p cpu (get_percpu_block (decode m) cpu) refl)

  blocks : reply a m' ≡ block_call m cpu time context → Unraised c n m'
  unfolding named
  blocks = through _ (λ p. to a m m' time z p cpu context _ (λ k x h e o r. block_in_range a m m' time z p Blocked k x o) (get_percpu_block (decode m) cpu) refl)

  hard_blocks : reply a m' ≡ hard_block_call m cpu time context → Unraised c n m'
  unfolding named
  hard_blocks = through _ (λ p. to a m m' time z p cpu context _ (λ k x h e o r. block_in_range a m m' time z p Stopped k x o) (get_percpu_block (decode m) cpu) refl)

  one_of : (b : Bool) (x y : Reply) → (reply a m' ≡ x → Formed c n m') → (reply a m' ≡ y → Formed c n m') → reply a m' ≡ (if b then x else y) → Formed c n m'
  one_of true x y f g e = f e
  one_of false x y f g e = g e

  -- any operation, by its number
  pub formed : (operation : ℕ) → reply a m' ≡ call m operation cpu time context → Formed c n m'
  unfolding call
  formed operation =
      one_of (eqb operation 1) _ _ (through _ (λ p. by a m m' time z p cpu by_tick tt (get_percpu_block (decode m) cpu) refl))
      (one_of (eqb operation 2) _ _ (through _ (λ p. by a m m' time z p cpu by_switch tt (get_percpu_block (decode m) cpu) refl))
      (one_of (eqb operation 3) _ _ (through _ (λ p. directly a m m' time z p cpu context (look_up (decode m) context) refl))
      (one_of (eqb operation 4) _ _ (λ e. unraised_formed (unblocks e))
      (one_of (eqb operation 5) _ _ (λ e. unraised_formed (drains e))
      (one_of (eqb operation 6) _ _ (λ e. unraised_formed (blocks e))
      (one_of (eqb operation 7) _ _ (λ e. unraised_formed (hard_blocks e)) (through _ (λ p e. refused_not 5 m (λ w. omega arith) e z))))))))

-- words of 64 bits
small_words : (m : List ℕ) → ((i : ℕ) → Fits w64 (get_or m i 0)) → RaisedAtMost max_word m
small_words m words =
    let h : (i : ℕ) → get_or m i 0 ≤ max_word = λ i. omega (arith, words i) in
    record {
      context = λ x l. (h _, (h _, (h _, (h _, (h _, tt)))));
      block = λ k l. (h _, (h _, (h _, (h _, (h _, (h _, (h _, (h _, (h _, tt)))))))));
      array = λ k l. (λ i b. h _, (λ i b. h _, tt));
    }

left_by : {m m' : List ℕ} (top : ℕ) (f : Formed (size_c m) (size_n m) m') → MachineRaised top (size_c m) (size_n m) f.M → Left top m m'
left_by {m} {m'} top f r =
    let c = size_c m in
    let n = size_n m in
    let a = cpus_are c n f.M f.holds in
    let b = names_are c n f.M f.holds in
    subst (Left top m) (sym f.is)
    (record {
      cpus = a;
      contexts = b;
      size = length_is c n f.M f.holds ∙ rw (a, b);
      ranges = in_ranges c n f.M f.holds top r;
      structured = rw (a, b) (structured c n f.M f.holds);
    })

-- words: those of the image after are of 64 bits
pub leaves : {a : Answer} {m' : List ℕ} (m : List ℕ) (operation cpu time context : ℕ) → reply a m' ≡ call m operation cpu time context → ((i : ℕ) → Fits w64 (get_or m' i 0))
    → Leaves max_word m m' a.refusal
leaves {a} {m'} m operation cpu time context e words =
    record {
      left = λ z.
          let f = formed a m m' cpu time context z operation e in
          left_by max_word f (words_raised (size_c m) (size_n m) f.M f.holds max_word (subst (RaisedAtMost max_word) f.is (small_words m' words)));
    }

pub unraised_left : {m m' : List ℕ} → Unraised (size_c m) (size_n m) m' → Left max_number m m'
unraised_left f = left_by max_number (unraised_formed f) f.holds.raised

-- what operations 4 to 7 promise, from the first promise
module _ {a : Answer} {m' : List ℕ} (m : List ℕ) (cpu time context : ℕ) where
  pub unblock_promises : reply a m' ≡ unblock_context_call m cpu time context → record { image_after : reply a m' ≡ unblock_context_call m cpu time context; leaves : Leaves max_number m m' a.refusal }
  unblock_promises e = record { image_after = e; leaves = record { left = λ z. unraised_left (unblocks a m m' cpu time context z e) } }

  pub drain_promises : reply a m' ≡ drain_ipi_context_wakeups_call m cpu time → record { image_after : reply a m' ≡ drain_ipi_context_wakeups_call m cpu time; leaves : Leaves max_number m m' a.refusal }
  drain_promises e = record { image_after = e; leaves = record { left = λ z. unraised_left (drains a m m' cpu time context z e) } }

  pub block_promises : reply a m' ≡ block_call m cpu time context → record { image_after : reply a m' ≡ block_call m cpu time context; leaves : Leaves max_number m m' a.refusal }
  block_promises e = record { image_after = e; leaves = record { left = λ z. unraised_left (blocks a m m' cpu time context z e) } }

  pub hard_block_promises : reply a m' ≡ hard_block_call m cpu time context → record { image_after : reply a m' ≡ hard_block_call m cpu time context; leaves : Leaves max_number m m' a.refusal }
  hard_block_promises e = record { image_after = e; leaves = record { left = λ z. unraised_left (hard_blocks a m m' cpu time context z e) } }

-- what operations 1 to 3 promise, and any by its number, from the first two promises; words: those of the image after
module _ {a : Answer} {m' : List ℕ} (m : List ℕ) (cpu time context : ℕ) (words : (i : ℕ) → Fits w64 (get_or m' i 0)) where
  pub call_promises : (operation : ℕ) → reply a m' ≡ call m operation cpu time context → DemandMet m m' operation cpu time context a.refusal
      → record { image_after : reply a m' ≡ call m operation cpu time context; demand_met : DemandMet m m' operation cpu time context a.refusal; leaves : Leaves max_word m m' a.refusal }
  call_promises operation e d = record { image_after = e; demand_met = d; leaves = leaves m operation cpu time context e words }

  pub tick_promises : reply a m' ≡ tick_call m cpu time → DemandMet m m' 1 cpu time 0 a.refusal
      → record { image_after : reply a m' ≡ tick_call m cpu time; demand_met : DemandMet m m' 1 cpu time 0 a.refusal; leaves : Leaves max_word m m' a.refusal }
  tick_promises e d = record { image_after = e; demand_met = d; leaves = leaves m 1 cpu time 0 (is_tick m 1 cpu time 0 refl e) words }

  pub switch_promises : reply a m' ≡ switch_call m cpu time → DemandMet m m' 2 cpu time 0 a.refusal
      → record { image_after : reply a m' ≡ switch_call m cpu time; demand_met : DemandMet m m' 2 cpu time 0 a.refusal; leaves : Leaves max_word m m' a.refusal }
  switch_promises e d = record { image_after = e; demand_met = d; leaves = leaves m 2 cpu time 0 (is_switch m 2 cpu time 0 refl e) words }

  pub direct_switch_to_promises : reply a m' ≡ direct_switch_to_call m cpu time context → DemandMet m m' 3 cpu time context a.refusal
      → record { image_after : reply a m' ≡ direct_switch_to_call m cpu time context; demand_met : DemandMet m m' 3 cpu time context a.refusal; leaves : Leaves max_word m m' a.refusal }
  direct_switch_to_promises e d = record { image_after = e; demand_met = d; leaves = leaves m 3 cpu time context (is_direct_switch_to m 3 cpu time context refl e) words }

-- if no word that it raised is over 2^62 - 1, the image passes again
pub call_passes_again : (a : Answer) (m m' : List ℕ) (operation cpu time context : ℕ) → reply a m' ≡ call m operation cpu time context → a.refusal ≡ 0 → RaisedAtMost max_number m'
    → (later : ℕ) → later ≤ max_number → image_refusal later m' ≡ 0
call_passes_again a m m' operation cpu time context e z r later h =
    let f = formed a m m' cpu time context z operation e in
    subst (λ (y : List ℕ). image_refusal later y ≡ 0) (sym f.is) (passes (size_c m) (size_n m) f.M f.holds later h (subst (RaisedAtMost max_number) f.is r))
