-- A switch in the code's words. Assumes nothing.
use mathlib.Core.Path.{◌≡◌, refl, sym, ◌∙◌}
use mathlib.Core.Bool.{true}
use Prim.Native.Nat.{ℕ}
use Rattle.model.specs.State as model
use Rattle.model.specs.SwitchTo.{saved, switch_to}
use Rattle.model.proofs.Cases.{never}
use Rattle.plain_state.specs.declared.State.{State}
use Rattle.plain_state.specs.States.{state_in, Became, Tracks}
use Rattle.plain_state.proofs.Tracking.{Stays, became_tracks, tracks_then, became_then}
use Rattle.plain_switch.specs.Switched.{left_at, entered}

-- from the parts to the whole
module _ (n k time x : ℕ) (s : State) where
  rest : model.State → model.State
  rest S = entered k time x (left_at k time S)

  whole : switch_to k time x (state_in n s) ≡ rest (saved k time (state_in n s))
  unfolding switch_to rest
  whole = refl

  stays : Stays rest
  unfolding rest
  stays S e = e

  pub switch_full : {t : State} → Tracks n t (saved k time (state_in n s)) → t.no_room ≡ true → Tracks n t (switch_to k time x (state_in n s))
  switch_full {t} a e =
      let m : (rest (saved k time (state_in n s))).no_room ≡ true = stays (saved k time (state_in n s)) (sym a.room ∙ e) in
      rw whole (record { sound = a.sound; room = e ∙ sym m; is = λ z. never m z })

  pub switch_room : {t u r : State} → Tracks n t (saved k time (state_in n s)) → Became n u (left_at k time (state_in n t)) → Became n r (entered k time x (state_in n u))
      → Tracks n r (switch_to k time x (state_in n s))
  unfolding rest
  switch_room {t} {u} {r} a b c = rw whole (tracks_then rest stays a (became_then (entered k time x) b (became_tracks c)))
