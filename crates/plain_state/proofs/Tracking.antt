-- Steps put together: what follows a state that found no room does not matter, as the mark stays. Assumes nothing.
use mathlib.Core.Path.{◌≡◌, sym, ap, ◌∙◌, subst}
use mathlib.Core.Bool.{true}
use Prim.Native.Nat.{ℕ}
use Rattle.model.specs.State as model
use Rattle.model.proofs.Cases.{by_test, never}
use Rattle.plain_state.specs.declared.State.{State}
use Rattle.plain_state.specs.States.{state_in, Sound, Became, Tracks}

-- a step after which a mark that was set is set
abbrev pub Stays : (model.State → model.State) → Type 0
Stays f = (S : model.State) → S.no_room ≡ true → (f S).no_room ≡ true

module _ {n : ℕ} {r : State} where
  pub became_tracks : {S : model.State} → Became n r S → Tracks n r S
  became_tracks b = record { sound = b.sound; room = ap (λ (z : model.State). z.no_room) b.is; is = λ h. b.is }

  pub tracks_as : {S T : model.State} → Tracks n r S → S ≡ T → Tracks n r T
  tracks_as t e = subst (Tracks n r) e t

  module _ {s : State} {S : model.State} (f : model.State → model.State) where
    pub became_then : Became n s S → Tracks n r (f (state_in n s)) → Tracks n r (f S)
    became_then b t = subst (λ (z : model.State). Tracks n r (f z)) b.is t

    pub tracks_then : Stays f → Tracks n s S → Tracks n r (f (state_in n s)) → Tracks n r (f S)
    tracks_then m b t =
        by_test S.no_room
        (λ e.
        record {
          sound = t.sound;
          room = t.room ∙ m (state_in n s) (b.room ∙ e) ∙ sym (m S e);
          is = λ z. never (m S e) z;
        })
        (λ e. subst (λ (z : model.State). Tracks n r (f z)) (b.is e) t)

-- nothing is done where the mark is set
pub tracks_kept : {n : ℕ} {s : State} (f : model.State → model.State) → Stays f → Sound n s → s.no_room ≡ true → Tracks n s (f (state_in n s))
tracks_kept {n} {s} f m o e = record { sound = o; room = e ∙ sym (m (state_in n s) e); is = λ z. never (m (state_in n s) e) z }
