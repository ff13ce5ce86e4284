-- With other words for all that a call does not read it answers the same, and leaves the same image but for those words.
use Rattle.std.specs.Prelude.{if◌then◌else◌}
use mathlib.Core.Path.{◌≡◌, refl, sym, ap, ◌∙◌, subst}
use mathlib.Core.Bool.{Bool, true, false}
use mathlib.Core.List.{List}
use Prim.Native.Nat.{ℕ}
use lib.Dec.{eqb}
use lib.ListN.{length}
use borrow.Author.Tests.{eqb-true}
use Rattle.columns.proofs.Tabulate.{length_tabulate}
use Rattle.context.specs.declared.Context.{Context}
use Rattle.context.specs.declared.Status.TheVariants.{Blocked, Stopped}
use Rattle.machine.specs.Machine.{Machine, cpu_at}
use Rattle.machine.specs.Encode.{encode, decode}
use Rattle.machine.specs.LookUp.{get_percpu_block}
use Rattle.machine.specs.Outcome.{Outcome}
use Rattle.image.specs.Refusal.{size_c, size_n, image_refusal}
use Rattle.model.specs.Accepted.{by_tick, by_switch}
use Rattle.model_leaves.proofs.Passing.{names_are}
use Rattle.model_local.specs.Names.{names}
use Rattle.model_local.specs.Local.{Within}
use Rattle.context_ops.specs.Named.{named}
use Rattle.context_ops.specs.Operations.{unblock_context, drain_ipi_context_wakeups, block, hard_block}
use Rattle.context_ops.specs.Reply.{Reply, refuse, reply_to, reply_on}
use Rattle.switch_ops.specs.Reply.{decide, direct_switch}
use Rattle.calls.specs.Call.{checked, checked_by, tick_call, switch_call, direct_switch_to_call, unblock_context_call, drain_ipi_context_wakeups_call, block_call, hard_block_call, no_operation_call, call}
use Rattle.calls.proofs.Called.{check_passed}
use Rattle.ronthuyal.proofs.Left.{formed}
use Rattle.call_weights.proofs.Runs as calls
use Rattle.call_locks.specs.Locks.{Locks, InRange, relocked, relocked_contexts, relocked_cpus, relocked_image, takes_context, reads_context, reads_cpu, LocksOfOthers}
use Rattle.call_locks.proofs.Relocked.{relocked_after}
use Rattle.call_locks.proofs.Calling.{elsewhere, outcome_elsewhere, Stealable}
use Rattle.call_locks.proofs.Operations.{unblock_moves, block_moves}
use Rattle.call_locks.proofs.Replies.{Both, refused, accepted, moved_both, drain_both, named_both, decide_both, direct_both}
use Rattle.call_locks.proofs.Passing.{relocked_passes, relocked_decodes}
use Rattle.call_locks.proofs.Read.{or_second, reads_within, reads_own, reads_here, reads_stolen}

-- a call on an image that passes
checked_is : (m : List ℕ) (time : ℕ) → image_refusal time m ≡ 0 → (f : Machine → Reply) → checked m time f ≡ f (decode m)
unfolding checked_by
checked_is m time z f = ap (checked_by m f) (sym (check_passed m time 0 (size_c m) (size_n m) (sym z) refl refl refl))

module _ (m : List ℕ) (operation cpu time context : ℕ) (l : Locks) (r : InRange l) (z : image_refusal time m ≡ 0) where
  abbrev M : Machine
  M = decode m

  abbrev S : ℕ → Bool
  S = reads_context M operation cpu context

  abbrev Q : ℕ → Bool
  Q = reads_cpu M cpu

  abbrev put : List ℕ → List ℕ
  put = relocked_image S Q l

  abbrev m' : List ℕ
  m' = put m

  pub record Same (y y' : Reply) : Type 0 where
    pub answer : y'.answer ≡ y.answer
    pub image : y'.image ≡ put y.image

  same_pick : {x y x' y' : Reply} (b : Bool) → (b ≡ true → Same x x') → (b ≡ false → Same y y') → Same (if b then x else y) (if b then x' else y')
  same_pick true f g = f refl
  same_pick false f g = g refl

  -- an accepted call keeps the number of contexts
  size_kept : (o : ℕ) → (call m o cpu time context).answer.refusal ≡ 0 → size_n (call m o cpu time context).image ≡ size_n m
  size_kept o e =
      let y = call m o cpu time context in
      let f = formed y.answer m y.image cpu time context e o refl in
      ap size_n f.is ∙ names_are (size_c m) (size_n m) f.M f.holds

  length_decoded : (w : List ℕ) → length (decode w).contexts ≡ size_n w
  unfolding decode
  length_decoded w = length_tabulate (size_n w) _

  same : (N : Machine) (y y' : Reply) → Both S Q l M m m' N y y' → (y.answer.refusal ≡ 0 → decode y.image ≡ N) → (y.answer.refusal ≡ 0 → size_n y.image ≡ size_n m) → Same y y'
  same N y y' (refused i e e') d n = record { answer = ap (λ (x : Reply). x.answer) e' ∙ sym (ap (λ (x : Reply). x.answer) e); image = ap (λ (x : Reply). x.image) e' ∙ sym (ap (λ (x : Reply). put x.image) e) }
  same N y y' (accepted o i e e' u) d n =
      let a : y.answer.refusal ≡ 0 = ap (λ (x : Reply). x.answer.refusal) e in
      let D : decode y.image ≡ o.machine = d a ∙ sym i in
      let fs = o.machine.contexts in
      let h : length fs ≡ length M.contexts = ap (λ (K : Machine). length K.contexts) (sym D) ∙ length_decoded y.image ∙ n a ∙ sym (length_decoded m) in
      record {
        answer = ap (λ (x : Reply). x.answer) e' ∙ sym (ap (λ (x : Reply). x.answer) e);
        image =
            ap (λ (x : Reply). x.image) e'
            ∙ ap (λ (cs : List Context). encode (record { contexts = cs; cpus = relocked_cpus l Q o.machine.cpus })) (relocked_after S l M.contexts fs u h)
            ∙ ap (λ (K : Machine). encode (relocked S Q l K)) (sym D);
      }

  -- past the check, on both images
  both_checked : {N : Machine} (f f' : Machine → Reply) → Both S Q l M m m' N (f M) (f' (relocked S Q l M)) → Both S Q l M m m' N (checked m time f) (checked m' time f')
  both_checked {N} f f' b =
      subst (λ (y : Reply). Both S Q l M m m' N y (checked m' time f')) (sym (checked_is m time z f))
      (subst (Both S Q l M m m' N (f M)) (sym (checked_is m' time (relocked_passes S Q l r m time z) f' ∙ ap f' (relocked_decodes S Q l r m time z))) b)

  abbrev W : Within S (names (cpu_at M cpu))
  W = reads_within M operation cpu context

  abbrev here : Q cpu ≡ true
  here = reads_here M operation cpu context

  stolen : Stealable S Q (length M.contexts) cpu M
  stolen = reads_stolen M operation cpu context Q (λ j t. or_second (eqb j cpu) _ t)

  stolen₀ : Stealable S (λ (j : ℕ). true) (length M.contexts) cpu M
  stolen₀ = reads_stolen M operation cpu context (λ (j : ℕ). true) (λ j t. refl)

  tick_same : Same (tick_call m cpu time) (tick_call m' cpu time)
  unfolding call
  tick_same =
      same _ (tick_call m cpu time) (tick_call m' cpu time)
      (both_checked (λ (N : Machine). decide m N cpu time by_tick) (λ (N : Machine). decide m' N cpu time by_tick) (decide_both S Q l M m m' cpu time W here stolen stolen₀ by_tick tt))
      (λ e. (calls.ticks _ m _ cpu time context e refl).is) (size_kept 1)

  switch_same : Same (switch_call m cpu time) (switch_call m' cpu time)
  unfolding call
  switch_same =
      same _ (switch_call m cpu time) (switch_call m' cpu time)
      (both_checked (λ (N : Machine). decide m N cpu time by_switch) (λ (N : Machine). decide m' N cpu time by_switch) (decide_both S Q l M m m' cpu time W here stolen stolen₀ by_switch tt))
      (λ e. (calls.switches _ m _ cpu time context e refl).is) (size_kept 2)

  drain_same : Same (drain_ipi_context_wakeups_call m cpu time) (drain_ipi_context_wakeups_call m' cpu time)
  unfolding call
  drain_same =
      same _ (drain_ipi_context_wakeups_call m cpu time) (drain_ipi_context_wakeups_call m' cpu time)
      (both_checked (λ (N : Machine). reply_on m (λ (k : ℕ). drain_ipi_context_wakeups k N) (get_percpu_block N cpu)) (λ (N : Machine). reply_on m' (λ (k : ℕ). drain_ipi_context_wakeups k N) (get_percpu_block N cpu))
      (drain_both S Q l M m m' cpu))
      (λ e. (calls.drains _ m _ cpu time context e refl).is) (size_kept 5)

  none_same : Same (no_operation_call m time) (no_operation_call m' time)
  unfolding call
  none_same =
      let b : Both S Q l M m m' M (no_operation_call m time) (no_operation_call m' time) = both_checked (λ (N : Machine). refuse 5 m) (λ (N : Machine). refuse 5 m') (refused 5 refl refl) in
      let e = checked_is m time z (λ (N : Machine). refuse 5 m) in
      same M (no_operation_call m time) (no_operation_call m' time) b (λ t. ap (λ (y : Reply). decode y.image) e) (λ t. ap (λ (y : Reply). size_n y.image) e)

  -- the operations with a context
  module _ (t : takes_context operation ≡ true) where
    own : S context ≡ true
    own = reads_own M operation cpu context t

    direct_same : Same (direct_switch_to_call m cpu time context) (direct_switch_to_call m' cpu time context)
    unfolding call
    direct_same =
        same _ (direct_switch_to_call m cpu time context) (direct_switch_to_call m' cpu time context)
        (both_checked (λ (N : Machine). direct_switch m N cpu time context) (λ (N : Machine). direct_switch m' N cpu time context) (direct_both S Q l M m m' cpu time W here stolen stolen₀ context own))
        (λ e. (calls.direct_switches _ m _ cpu time context e refl).is) (size_kept 3)

    named_checked : (f : ℕ → ℕ → Machine → Outcome)
        → ((P : ℕ → Bool) (ds : List Context) (k : ℕ) → f k context (elsewhere S P l ds M) ≡ outcome_elsewhere S P l ds (f k context M))
        → Both S Q l M m m' (f cpu context M).machine (checked m time (λ (N : Machine). reply_to m (λ (k x : ℕ). f k x N) (named N cpu context)))
        (checked m' time (λ (N : Machine). reply_to m' (λ (k x : ℕ). f k x N) (named N cpu context)))
    named_checked f g =
        both_checked (λ (N : Machine). reply_to m (λ (k x : ℕ). f k x N) (named N cpu context)) (λ (N : Machine). reply_to m' (λ (k x : ℕ). f k x N) (named N cpu context))
        (named_both S Q l M m m' cpu context own f (λ k. moved_both S Q l M m m' (f k context) (g Q (relocked_contexts l M.contexts) k) (g (λ (j : ℕ). true) M.contexts k)))

    unblock_same : Same (unblock_context_call m cpu time context) (unblock_context_call m' cpu time context)
    unfolding call
    unblock_same =
        same _ (unblock_context_call m cpu time context) (unblock_context_call m' cpu time context) (named_checked unblock_context (λ P ds k. unblock_moves S P l ds context own k M))
        (λ e. (calls.unblocks _ m _ cpu time context e refl).is) (size_kept 4)

    block_same : Same (block_call m cpu time context) (block_call m' cpu time context)
    unfolding call
    block_same =
        same _ (block_call m cpu time context) (block_call m' cpu time context) (named_checked (λ (k x : ℕ). block x) (λ P ds k. block_moves S P l ds context own Blocked M))
        (λ e. (calls.blocks _ m _ cpu time context e refl).is) (size_kept 6)

    hard_block_same : Same (hard_block_call m cpu time context) (hard_block_call m' cpu time context)
    unfolding call
    hard_block_same =
        same _ (hard_block_call m cpu time context) (hard_block_call m' cpu time context) (named_checked (λ (k x : ℕ). hard_block x) (λ P ds k. block_moves S P l ds context own Stopped M))
        (λ e. (calls.hard_blocks _ m _ cpu time context e refl).is) (size_kept 7)

  -- one of the four
  takes : (o : ℕ) → takes_context o ≡ true → eqb operation o ≡ true → takes_context operation ≡ true
  takes o t e = rw (eqb-true operation o e) t

  pub call_same : Same (call m operation cpu time context) (call m' operation cpu time context)
  unfolding call takes_context
  call_same =
      same_pick (eqb operation 1) (λ t. tick_same)
      (λ t. same_pick (eqb operation 2) (λ t. switch_same)
      (λ t. same_pick (eqb operation 3) (λ t. direct_same (takes 3 refl t))
      (λ t. same_pick (eqb operation 4) (λ t. unblock_same (takes 4 refl t))
      (λ t. same_pick (eqb operation 5) (λ t. drain_same)
      (λ t. same_pick (eqb operation 6) (λ t. block_same (takes 6 refl t))
      (λ t. same_pick (eqb operation 7) (λ t. hard_block_same (takes 7 refl t)) (λ t. none_same)))))))

pub locks_of_others : LocksOfOthers
locks_of_others m operation cpu time context l r z =
    let s = call_same m operation cpu time context l r z in record { answer = s.answer; image = s.image }
