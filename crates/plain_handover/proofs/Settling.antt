-- Advance, way back and stealable word, in the code's words. Assumes nothing.
use Rattle.std.specs.Prelude.{None, Option, Some, is_some}
use mathlib.Core.Path.{◌≡◌, refl, ap, ◌∙◌}
use mathlib.Core.Bool.{Bool, ◌||◌}
use Prim.Native.Nat.{ℕ}
use Rattle.model.specs.State as model
use Rattle.model.specs.State.{on_cpu}
use Rattle.model.specs.Steal.{mark_stealable}
use Rattle.model.specs.Handover.{advance}
use Rattle.handover.specs.Handed.{advance_by}
use Rattle.plain_model.specs.Handover.{settled}
use Rattle.plain_state.specs.declared.State.{State}
use Rattle.plain_state.specs.States.{state_in, Became, Tracks}
use Rattle.plain_state.proofs.Tracking.{became_tracks, tracks_as, tracks_then}
use Rattle.plain_handover.specs.Settled.{stealing_of, sent_back}

module _ {n : ℕ} {r : State} where
  pub became_as : {S T : model.State} → S ≡ T → Became n r S → Became n r T
  became_as e b = record { sound = b.sound; is = b.is ∙ e }

pub some_is : (w : Option ℕ) → is_some w ≡ is_some w
some_is None = refl
some_is (Some x) = refl

pub settled_all : (n : ℕ) (s : State) (runs : Bool) (winner : Option ℕ) (ticks : ℕ) {won somebody : Bool} {t u r : State} → won ≡ is_some winner → somebody ≡ (won || runs)
    → Became n t (advance_by somebody ticks (state_in n s)) → Tracks n u (sent_back won runs (state_in n t)) → Became n r (on_cpu mark_stealable (state_in n u))
    → Tracks n r (settled runs ticks (stealing_of (state_in n s) winner))
unfolding settled advance
settled_all n s runs winner ticks {won} {somebody} {t} {u} {r} e f a b c =
    let w : won ≡ is_some winner = e ∙ some_is winner in
    tracks_then (on_cpu mark_stealable) (λ S h. h)
    (tracks_as b
    (ap (sent_back won runs) (a.is ∙ ap (λ (z : Bool). advance_by z ticks (state_in n s)) f)
    ∙ ap (λ (z : Bool). sent_back z runs (advance_by (z || runs) ticks (state_in n s))) w)) (became_tracks c)
