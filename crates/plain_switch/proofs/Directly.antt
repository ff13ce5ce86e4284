-- A direct switch in the code's words. Assumes nothing.
use mathlib.Core.Path.{◌≡◌, refl, sym, ap, ◌∙◌, subst}
use mathlib.Core.Bool.{Bool, true, false}
use Prim.Native.Nat.{ℕ, ◌<◌}
use borrow.Author.Tests.{eq-eqb, ne_eqb}
use Rattle.context.specs.declared.Context.{Context}
use Rattle.runnable.specs.declared.UpdateResult.{UpdateResult}
use Rattle.runnable.specs.declared.UpdateResult.TheVariants.{CanSwitch, Skip, Blocked}
use Rattle.runnable.specs.Runnable.{update_runnable}
use Rattle.machine.specs.Shape.{ContextFits}
use Rattle.model.specs.State as model
use Rattle.model.specs.State.{at, put_context}
use Rattle.model.specs.SwitchTo.{switch_to, direct_switch_by, try_direct_switch_back}
use Rattle.switch_to.proofs.Directly.{Good, update_good}
use Rattle.plain_model.specs.State.{placed}
use Rattle.plain_state.specs.declared.State.{State}
use Rattle.plain_state.specs.States.{state_in, Became, Tracks}
use Rattle.plain_state.specs.Fits.{StateFits}
use Rattle.plain_state.proofs.Fitting.{context_put}
use Rattle.stages.specs.Stage.{ContextBelow, StateBelow}
use Rattle.stages.proofs.Kept.{context_kept}
use Rattle.std.specs.Prelude as std
use Rattle.std.specs.Prelude.{None, Some, Option}
use Rattle.plain_switch.specs.Direct.{Switches}

-- the record that `update_runnable` gives is in its ranges
pub can_switch : (n x w time : ℕ) (own : Bool) {t b : ℕ} {q r : Context} {v : UpdateResult} (s : model.State) → StateFits n s → StateBelow n t b (placed s) → x < n → q ≡ at s x
    → v ≡ update_runnable w time own false q → v ≡ CanSwitch r → ContextFits 4 r × ContextBelow t b r
can_switch n x w time own {t} {b} {q} {r} {v} s f o h e g z =
    subst (Good 4 t b) (sym g ∙ z) (update_good 4 t b w time own false q (rw e (f.context x h)) (rw e (o.context x h)))

module _ (n x : ℕ) (s t : State) (q : Context) (b : Became n t (put_context x q (state_in n s))) where
  pub put_fits : StateFits n (state_in n s) → ContextFits 4 q → StateFits n (state_in n t)
  put_fits f o = rw b.is (context_put (state_in n s) f x q o)

  pub put_below : {u v : ℕ} → StateBelow n u v (placed (state_in n s)) → ContextBelow u v q → StateBelow n u v (placed (state_in n t))
  put_below {u} {v} f o = subst (λ (z : model.State). StateBelow n u v (placed z)) (sym b.is) (context_kept (placed (state_in n s)) f x q o)

-- by what `update_runnable` said of the record
module _ (n k time x : ℕ) (own : Bool) (s : State) {w : ℕ} {q : Context} {v : UpdateResult} (hw : w ≡ k) (hq : q ≡ at (state_in n s) x) (hv : v ≡ update_runnable w time own false q) where
  said : update_runnable k time own false (at (state_in n s) x) ≡ v
  said = sym (hv ∙ ap (λ (j : ℕ). update_runnable j time own false q) hw ∙ ap (update_runnable k time own false) hq)

  abbrev after : Option model.State
  after = direct_switch_by k time x (state_in n s) (update_runnable k time own false (at (state_in n s) x))

  pub by_can_switch : {d : State} (r : Context) → v ≡ CanSwitch r → Tracks n d (switch_to k time x (put_context x r (state_in n s))) → Switches n (Some d) (state_in n s) after
  unfolding direct_switch_by
  by_can_switch {d} r z t = let y : update_runnable k time own false (at (state_in n s) x) ≡ CanSwitch r = said ∙ z in rw y (refl, t)

  pub by_skip : v ≡ Skip → Switches n None (state_in n s) after
  unfolding direct_switch_by
  by_skip z = let y : update_runnable k time own false (at (state_in n s) x) ≡ Skip = said ∙ z in rw y

  pub by_blocked : v ≡ Blocked → Switches n None (state_in n s) after
  unfolding direct_switch_by
  by_blocked z = let y : update_runnable k time own false (at (state_in n s) x) ≡ Blocked = said ∙ z in rw y

-- back to the context in charge
module _ (n k time : ℕ) (s : State) where
  pub in_charge : s.cpu.block.current_ctxt ≡ s.cpu.block.sched_ctxt → Switches n None (state_in n s) (try_direct_switch_back k time (state_in n s))
  unfolding try_direct_switch_back
  in_charge h = rw (eq-eqb s.cpu.block.current_ctxt s.cpu.block.sched_ctxt h)

  pub switched_back : (d : std.Option State) {x : ℕ} → (s.cpu.block.current_ctxt ≡ s.cpu.block.sched_ctxt → ⊥) → x ≡ s.cpu.block.sched_ctxt
      → Switches n d (state_in n s) (direct_switch_by k time x (state_in n s) (update_runnable k time true false (at (state_in n s) x)))
      → Switches n d (state_in n s) (try_direct_switch_back k time (state_in n s))
  unfolding try_direct_switch_back
  switched_back d {x} h e t =
      rw (ne_eqb s.cpu.block.current_ctxt s.cpu.block.sched_ctxt h)
      (subst (λ (y : ℕ). Switches n d (state_in n s) (direct_switch_by k time y (state_in n s) (update_runnable k time true false (at (state_in n s) y)))) e t)
