-- Two replies: of a call on a machine, and on the machine with other words where the call does not look. Assumes nothing.
use Rattle.std.specs.Prelude.{if◌then◌else◌, None, Option, Some}
use mathlib.Core.Path.{◌≡◌, refl, sym, ap, ◌∙◌, subst}
use mathlib.Core.Bool.{Bool, true, false}
use mathlib.Core.List.{List}
use Prim.Native.Nat.{ℕ}
use lib.Dec.{eqb}
use lib.ListN.{length}
use Rattle.columns.specs.Common.{mark}
use Rattle.columns.proofs.Tests.{by_test}
use Rattle.context.specs.declared.Context.{Context}
use Rattle.machine.specs.Machine.{Machine, context_at, cpu_at}
use Rattle.machine.specs.Encode.{encode}
use Rattle.machine.specs.LookUp.{look_up, get_percpu_block}
use Rattle.machine.specs.Outcome.{Outcome}
use Rattle.machine.proofs.LookUps.{live, present}
use Rattle.context_ops.specs.Named.{named_context, named_on, named}
use Rattle.context_ops.specs.Operations.{drain_ipi_context_wakeups}
use Rattle.context_ops.specs.Reply.{Reply, refuse, replied, reply_to, reply_on}
use Rattle.switch_ops.specs.Reply.{refusal, decide_on, decide_by, decide, direct_switch_by, direct_switch}
use Rattle.model.specs.Accepted.{Call, by_tick, by_switch, by_direct_switch, outcome}
use Rattle.model_local.specs.Names.{names}
use Rattle.model_local.specs.Local.{with_others, Within}
use Rattle.model_local.proofs.Others.{others_same}
use Rattle.call_locks.specs.Locks.{Locks, relocked, relocked_contexts}
use Rattle.call_locks.proofs.Relocked.{cpus_same}
use Rattle.call_locks.proofs.Calling.{elsewhere, outcome_elsewhere, Stealable, Target, outcome_moves}
use Rattle.call_locks.proofs.Operations.{block_same, drain_moves}
use Rattle.call_locks.proofs.Refusals.{found_same, named_same, decision_same, direct_same}

-- an outcome that is not refused
abbrev pub made : Outcome → Reply
made o = record { answer = record { refusal = 0; result = o.result; interrupt = mark o.interrupt; rule = o.rule }; image = encode o.machine }

-- m, m': the two images, of M and of M with the other words
module _ (S Q : ℕ → Bool) (l : Locks) (M : Machine) (m m' : List ℕ) where
  abbrev E : Machine
  E = relocked S Q l M

  abbrev pub R : Outcome → Outcome
  R = outcome_elsewhere S Q l (relocked_contexts l M.contexts)

  -- every CPU, and the contexts as they are
  abbrev everywhere : ℕ → Bool
  everywhere j = true

  abbrev E₀ : Machine
  E₀ = elsewhere S everywhere l M.contexts M

  abbrev R₀ : Outcome → Outcome
  R₀ = outcome_elsewhere S everywhere l M.contexts

  -- both are refused by one number, or the outcomes differ in those words alone; N: the machine that an accepted call leaves
  pub data Both (N : Machine) (y y' : Reply) : Type 0 where
    refused : (r : ℕ) → y ≡ refuse r m → y' ≡ refuse r m' → Both N y y'
    accepted : (o : Outcome) → o.machine ≡ N → y ≡ made o → y' ≡ made (R o) → o.machine.contexts ≡ with_others S M.contexts o.machine.contexts → Both N y y'

  pub both_pick : {N : Machine} {x y x' y' : Reply} (b : Bool) → (b ≡ true → Both N x x') → (b ≡ false → Both N y y') → Both N (if b then x else y) (if b then x' else y')
  both_pick true f g = f refl
  both_pick false f g = g refl

  self : E₀ ≡ M
  self = λ j. record { contexts = others_same S M.contexts M.contexts refl (λ x t. refl) j; cpus = cpus_same l everywhere (λ i. refl) M.cpus j }

  replied_both : (o o' : Outcome) → o' ≡ R o → o.machine.contexts ≡ with_others S M.contexts o.machine.contexts → Both o.machine (replied m o) (replied m' o')
  unfolding replied
  replied_both o o' e u =
      subst (λ (p : Outcome). Both o.machine (replied m o) (replied m' p)) (sym e)
      (by_test o.no_room (λ t. refused 9 (rw t) (rw t)) (λ t. accepted o refl (rw t) (rw t) u))

  -- what moves with other words moves with those that are there
  pub moved_both : (f : Machine → Outcome) → f E ≡ R (f M) → f E₀ ≡ R₀ (f M) → Both (f M).machine (replied m (f M)) (replied m' (f E))
  moved_both f h h₀ = replied_both (f M) (f E) h (ap (λ (o : Outcome). o.machine.contexts) (ap f (sym self) ∙ h₀))

  -- operation 5
  pub drain_both : (cpu : ℕ) → Both (drain_ipi_context_wakeups cpu M).machine (reply_on m (λ (k : ℕ). drain_ipi_context_wakeups k M) (get_percpu_block M cpu))
      (reply_on m' (λ (k : ℕ). drain_ipi_context_wakeups k E) (get_percpu_block E cpu))
  unfolding reply_on
  drain_both cpu =
      subst (λ (p : Option ℕ). Both (drain_ipi_context_wakeups cpu M).machine (reply_on m (λ (k : ℕ). drain_ipi_context_wakeups k M) (get_percpu_block M cpu)) (reply_on m' (λ (k : ℕ). drain_ipi_context_wakeups k E) p))
      (sym (block_same S Q l (relocked_contexts l M.contexts) M cpu)) (by (get_percpu_block M cpu) refl)
    where
      by : (p : Option ℕ) → p ≡ get_percpu_block M cpu → Both (drain_ipi_context_wakeups cpu M).machine (reply_on m (λ (k : ℕ). drain_ipi_context_wakeups k M) p) (reply_on m' (λ (k : ℕ). drain_ipi_context_wakeups k E) p)
      by None h = refused 5 refl refl
      by (Some k) h =
          subst (λ (j : ℕ). Both (drain_ipi_context_wakeups j M).machine (replied m (drain_ipi_context_wakeups k M)) (replied m' (drain_ipi_context_wakeups k E))) (present M cpu k h).is
          (moved_both (drain_ipi_context_wakeups k) (drain_moves S Q l (relocked_contexts l M.contexts) k M) (drain_moves S everywhere l M.contexts k M))

  -- operations 4, 6 and 7; context: one of the set
  module _ (cpu context : ℕ) (t : S context ≡ true) (f : ℕ → ℕ → Machine → Outcome)
      (g : (k : ℕ) → Both (f k context M).machine (replied m (f k context M)) (replied m' (f k context E))) where
    abbrev BothTo : ℕ → Reply → Reply → Type 0
    BothTo k = Both (f k context M).machine

    context_both : (k : ℕ) (y : Option ℕ) → y ≡ look_up M context → BothTo k (reply_to m (λ (i x : ℕ). f i x M) (named_context M k y)) (reply_to m' (λ (i x : ℕ). f i x E) (named_context M k y))
    unfolding named_context reply_to
    context_both k None h = refused 5 refl refl
    context_both k (Some y) h =
        by_test (eqb (context_at M.contexts y).lock 0)
        (λ u. rw u (subst (λ (x : ℕ). BothTo k (replied m (f k x M)) (replied m' (f k x E))) (sym (live M context y h).is) (g k)))
        (λ u. rw u (refused 6 refl refl))

    cpu_both : (p : Option ℕ) → p ≡ get_percpu_block M cpu → BothTo cpu (reply_to m (λ (i x : ℕ). f i x M) (named_on M context p)) (reply_to m' (λ (i x : ℕ). f i x E) (named_on M context p))
    unfolding named_on reply_to
    cpu_both None h = refused 5 refl refl
    cpu_both (Some k) h =
        subst (λ (j : ℕ). BothTo j (reply_to m (λ (i x : ℕ). f i x M) (named_context M k (look_up M context))) (reply_to m' (λ (i x : ℕ). f i x E) (named_context M k (look_up M context)))) (present M cpu k h).is
        (context_both k (look_up M context) refl)

    pub named_both : BothTo cpu (reply_to m (λ (i x : ℕ). f i x M) (named M cpu context)) (reply_to m' (λ (i x : ℕ). f i x E) (named E cpu context))
    unfolding named
    named_both =
        rw (named_same S Q l (relocked_contexts l M.contexts) M context t cpu) (cpu_both (get_percpu_block M cpu) refl)

  -- operations 1 to 3
  module _ (k time : ℕ) (w : Within S (names (cpu_at M k))) (here : Q k ≡ true) (v : Stealable S Q (length M.contexts) k M)
      (v₀ : Stealable S everywhere (length M.contexts) k M) where
    abbrev ds : List Context
    ds = relocked_contexts l M.contexts

    refusal_same : (c : Call) → Target S c → refusal c E k time ≡ refusal c M k time
    refusal_same by_tick t = decision_same S Q l ds M k time w here
    refusal_same by_switch t = decision_same S Q l ds M k time w here
    refusal_same (by_direct_switch x) t = direct_same S Q l ds M k time w here x t

    abbrev BothBy : Call → Reply → Reply → Type 0
    BothBy c = Both (outcome c k time M).machine

    on_both : (c : Call) → Target S c → BothBy c (decide_on m M k time c) (decide_on m' E k time c)
    unfolding decide_on
    on_both c t =
        let r = refusal c M k time in
        subst (λ (i : ℕ). BothBy c (decide_on m M k time c) (if eqb i 0 then replied m' (outcome c k time E) else refuse i m')) (sym (refusal_same c t))
        (both_pick (eqb r 0)
        (λ u. moved_both (outcome c k time) (outcome_moves S Q l ds k time M w here v c t) (outcome_moves S everywhere l M.contexts k time M w refl v₀ c t))
        (λ u. refused r refl refl))

    by_both : (c : Call) → Target S c → (p : Option ℕ) → p ≡ get_percpu_block M k → BothBy c (decide_by m M time c p) (decide_by m' E time c p)
    unfolding decide_by
    by_both c t None h = refused 5 refl refl
    by_both c t (Some j) h = subst (λ (i : ℕ). BothBy c (decide_on m M i time c) (decide_on m' E i time c)) (sym (present M k j h).is) (on_both c t)

    pub decide_both : (c : Call) → Target S c → BothBy c (decide m M k time c) (decide m' E k time c)
    decide_both c t =
        subst (λ (p : Option ℕ). BothBy c (decide m M k time c) (decide_by m' E time c p)) (sym (block_same S Q l ds M k)) (by_both c t (get_percpu_block M k) refl)

    pub direct_both : (x : ℕ) → S x ≡ true → BothBy (by_direct_switch x) (direct_switch m M k time x) (direct_switch m' E k time x)
    unfolding direct_switch_by
    direct_both x t =
        subst (λ (y : Option ℕ). BothBy (by_direct_switch x) (direct_switch m M k time x) (direct_switch_by m' E k time y)) (sym (found_same S Q l ds M x t)) (by (look_up M x) refl)
      where
        by : (y : Option ℕ) → y ≡ look_up M x → BothBy (by_direct_switch x) (direct_switch_by m M k time y) (direct_switch_by m' E k time y)
        by None h = refused 5 refl refl
        by (Some y) h =
            subst (λ (z : ℕ). BothBy (by_direct_switch x) (decide m M k time (by_direct_switch z)) (decide m' E k time (by_direct_switch z))) (sym (live M x y h).is) (decide_both (by_direct_switch x) t)
