-- One wake-up served, in the code's words: a lemma for each return. Assumes nothing.
use mathlib.Core.Path.{◌≡◌}
use Prim.Native.Nat.{ℕ}
use Rattle.context.specs.declared.Context.{Context}
use Rattle.model.specs.State as model
use Rattle.model.specs.Wakeup.{entering}
use Rattle.plain_model.specs.Wakeup.{enter}
use Rattle.plain_state.specs.declared.State.{State}
use Rattle.plain_state.specs.States.{state_in, Sound, Became, Tracks}
use Rattle.plain_state.proofs.Tracking.{became_tracks, tracks_as}
use Rattle.plain_wakeup.specs.Wakeups.{made_active, joined}

-- its new record e is stored, and its entry inserted
pub enters : (n : ℕ) (s : State) (x : ℕ) (c : Context) {e : Context} {t r : State} → e ≡ entering s.cpu.block.v c → Became n t (made_active c (state_in n s)) → Tracks n r (joined x e (state_in n t)) → Tracks n r (enter x c (state_in n s))
unfolding enter
enters n s x c h b d = tracks_as d (λ i. joined x (h i) (b.is i))

-- a state that stays as it is
pub same_tracks : {n : ℕ} {s : State} {S : model.State} → Sound n s → state_in n s ≡ S → Tracks n s S
same_tracks o e = became_tracks (record { sound = o; is = e })
