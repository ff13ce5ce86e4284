-- The judging functions, one lemma for each return; and the definitions by these values. Assumes nothing.
use Rattle.std.specs.Prelude.{if◌then◌else◌}
use mathlib.Core.Path.{◌≡◌, refl, sym, ap, ◌∙◌}
use mathlib.Core.Bool.{Bool, true, false, not}
use Prim.Native.Nat.{ℕ}
use lib.Dec.{eqb}
use borrow.Author.Tests.{eq-eqb, ne_eqb}
use Rattle.context.specs.declared.Context.{Context}
use Rattle.entries.specs.declared.Timer.{Timer}
use Rattle.model.specs.State.{State, at}
use Rattle.model.specs.Wakeup.{may_enter, woken_by, wakeup_result, dropped, locked, entered, woken_only}
use Rattle.wakeup_judge.specs.declared.Wakeup.{Wakeup}
use Rattle.wakeup_judge.specs.declared.WakeupResult.{WakeupResult}
use Rattle.wakeup_judge.specs.declared.WakeupResult.TheVariants.{Dropped, Locked, WokenOnly, Entered}
use Rattle.wakeup_judge.specs.Judge.{live_at, unreadable_at, wakeup_of, result_of, may_enter_at, judged}

module _ (sched : ℕ) (t : Timer) (c : Context) where
  pub live_gone : c.gone ≡ true → false ≡ live_at sched t c
  live_gone g = rw g

module _ (sched : ℕ) (t : Timer) (c : Context) where
  pub readable_gone : c.gone ≡ true → false ≡ unreadable_at sched t c
  readable_gone g = rw g

abbrev entered_if : Bool → Context → WakeupResult
entered_if b q = if b then Entered q else WokenOnly q

module _ (current sched : ℕ) (w : Wakeup) (c : Context) where
  pub judged_sched : w.context_ref ≡ sched → Dropped ≡ judged current sched w c
  unfolding judged
  judged_sched e = rw (eq-eqb _ _ e)

  module _ (d : w.context_ref ≡ sched → ⊥) where
    pub judged_gone : c.gone ≡ true → Dropped ≡ judged current sched w c
    unfolding judged
    judged_gone g = rw (ne_eqb _ _ d, g)

    pub judged_locked : c.gone ≡ false → (c.lock ≡ 0 → ⊥) → Locked ≡ judged current sched w c
    unfolding judged
    judged_locked g l = rw (ne_eqb _ _ d, g, ne_eqb _ _ l)

    module _ (q : Context) (b : Bool) (hq : q ≡ woken_by w.wake c) (hb : b ≡ may_enter_at current sched w.context_ref q) (g : c.gone ≡ false) (l : c.lock ≡ 0) where
      free : judged current sched w c ≡ entered_if (may_enter_at current sched w.context_ref q) q
      unfolding judged
      free =
          let z : judged current sched w c ≡ entered_if (may_enter_at current sched w.context_ref (woken_by w.wake c)) (woken_by w.wake c)
          = rw (ne_eqb _ _ d, g, eq-eqb _ _ l)
          in z ∙ ap (λ (y : Context). entered_if (may_enter_at current sched w.context_ref y) y) (sym hq)

      pub judged_entered : b ≡ true → Entered q ≡ judged current sched w c
      judged_entered t = sym (free ∙ ap (λ (y : Bool). entered_if y q) (sym hb ∙ t))

      pub judged_woken : b ≡ false → WokenOnly q ≡ judged current sched w c
      judged_woken t = sym (free ∙ ap (λ (y : Bool). entered_if y q) (sym hb ∙ t))

-- the two chains of tests
chain : (a g l b : Bool) (q : Context)
    → result_of (if a then Dropped else if g then Dropped else if not l then Locked else if b then Entered q else WokenOnly q)
    ≡ if a then dropped else if g then dropped else if not l then locked else if b then entered q else woken_only q
chain true g l b q = refl
chain false true l b q = refl
chain false false false b q = refl
chain false false true true q = refl
chain false false true false q = refl

-- the definition's result, from the values that the code reads
pub judged_is : (s : State) (w : Wakeup)
    → result_of (judged s.cpu.block.current_ctxt s.cpu.block.sched_ctxt w (at s w.context_ref)) ≡ wakeup_result s (wakeup_of w)
unfolding judged wakeup_result
judged_is s w =
    chain (eqb w.context_ref s.cpu.block.sched_ctxt) (at s w.context_ref).gone (eqb (at s w.context_ref).lock 0)
    (may_enter s.cpu w.context_ref (woken_by w.wake (at s w.context_ref))) (woken_by w.wake (at s w.context_ref))
