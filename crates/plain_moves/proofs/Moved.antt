-- One entry moved, in the code's words. Assumes nothing.
use mathlib.Core.Path.{◌≡◌, refl, sym, ap, ◌∙◌, subst}
use mathlib.Core.Bool.{Bool, true}
use Prim.Native.Nat.{ℕ}
use Rattle.context.specs.declared.Context.{Context}
use Rattle.entries.specs.declared.Entry.{Entry}
use Rattle.model.specs.Steal as model_steal
use Rattle.model.specs.Steal.{moved, first_wins}
use Rattle.model.proofs.Cases.{by_test, never}
use Rattle.plain_model.specs.Steal.{move_entry}
use Rattle.plain_state.specs.States.{Sound}
use Rattle.plain_moves.specs.declared.Moving.{Moving}
use Rattle.plain_moves.specs.Moves.{CpuSound, moving_in, MovingBecame, MovingTracks, stolen_record, weight_moved, taken_in}

-- the mark stays
pub move_stays : (runs : Bool) (M : model_steal.Moving) (e : Entry) → M.state.no_room ≡ true → (move_entry runs M e).state.no_room ≡ true
unfolding move_entry
move_stays runs M e h = by_test (first_wins runs M.winner) (λ t. rw t h) (λ t. rw (t, h))

module _ (n : ℕ) (m : Moving) (runs : Bool) (e : Entry) where
  pub not_moved : Sound n m.state → CpuSound m.victim → m.state.no_room ≡ true → MovingTracks n m (move_entry runs (moving_in n m) e)
  not_moved o v h =
      let z : (move_entry runs (moving_in n m) e).state.no_room ≡ true = move_stays runs (moving_in n m) e h in
      record { state = o; victim = v; room = h ∙ sym z; is = λ y. never z y }

  moved_is : taken_in runs e.context_ref (stolen_record (moving_in n m) e) e.weight (weight_moved e (moving_in n m)) ≡ move_entry runs (moving_in n m) e
  unfolding move_entry
  moved_is = refl

  pub moved_in : {x : ℕ} {q : Context} {t r : Moving} → q ≡ stolen_record (moving_in n m) e → MovingBecame n t (weight_moved e (moving_in n m)) → x ≡ e.context_ref
      → MovingTracks n r (taken_in runs x q e.weight (moving_in n t)) → MovingTracks n r (move_entry runs (moving_in n m) e)
  moved_in {x} {q} {t} {r} hq ht hx s =
      subst (MovingTracks n r) (ap (taken_in runs x q e.weight) ht.is ∙ (λ i. taken_in runs (hx i) (hq i) e.weight (weight_moved e (moving_in n m))) ∙ moved_is) s
