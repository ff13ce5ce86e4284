-- Entries moved one after the other. Assumes nothing.
use mathlib.Core.Path.{◌≡◌, sym, ◌∙◌, subst}
use mathlib.Core.Bool.{Bool}
use mathlib.Core.List.{List}
use Prim.Native.Nat.{ℕ, ◌+◌, ◌*◌, ◌<◌, ◌≤◌}
use native.Mathlib.Omega.{arith}
use lib.ListN.{length, get_or, take}
use Rattle.columns.specs.Common.{fold, All}
use Rattle.context.specs.declared.Context.{Context}
use Rattle.context.specs.Key.{with_new_key}
use Rattle.entries.specs.declared.Entry.{Entry}
use Rattle.machine.specs.Machine.{context_at, no_context}
use Rattle.machine.specs.Shape.{EntryFits}
use Rattle.machine.proofs.Steps.{get_d_set}
use Rattle.weights.specs.Weights.{full_slice, max_weight}
use Rattle.model.specs.Steal as model_steal
use Rattle.model.specs.Steal.{moved, first_wins}
use Rattle.model.proofs.Cases.{by_test, never}
use Rattle.plain_model.specs.Steal.{move_entry}
use Rattle.plain_lists.proofs.Folds.{fold_next, all_get_d}
use Rattle.stages.specs.Bounds.{b_charged}
use Rattle.plain_moves.specs.declared.Moving.{Moving}
use Rattle.plain_moves.specs.Moves.{moving_in, MovingTracks, MovedBelow, stolen_record}
use Rattle.plain_moves.proofs.Moved.{move_stays}

-- what one move adds
module _ (n i : ℕ) (runs : Bool) (M : model_steal.Moving) (e : Entry) (f : EntryFits n e) (o : MovedBelow n i M.state) where
  abbrev x : ℕ
  x = e.context_ref

  abbrev q : Context
  q = stolen_record M e

  lag : q.vtime ≤ b_charged * ((i + 1) + 1)
  lag =
      let a : M.state.cpu.block.v ≤ b_charged = o.v in
      let b : (context_at M.state.contexts x).vtime ≤ b_charged * (i + 1) = o.vtime x f.name in
      omega arith

  weight : M.state.cpu.block.total_weight + e.weight ≤ b_charged + max_weight * (i + 1)
  weight =
      let a : M.state.cpu.block.total_weight ≤ b_charged + max_weight * i = o.total_weight in
      let b : e.weight ≤ max_weight = f.light in
      omega arith

  later : (y : ℕ) → y < n → (context_at M.state.contexts y).vtime ≤ b_charged * ((i + 1) + 1)
  later y l = let b : (context_at M.state.contexts y).vtime ≤ b_charged * (i + 1) = o.vtime y l in omega arith

  pub move_adds : MovedBelow n (i + 1) (move_entry runs M e).state
  unfolding move_entry
  move_adds =
      by_test (first_wins runs M.winner)
      (λ t. rw t
      (record {
        v = o.v;
        total_weight = weight;
        vtime = λ y l. get_d_set M.state.contexts x y q no_context (λ (c : Context). c.vtime ≤ b_charged * ((i + 1) + 1)) lag (later y l);
        slice = λ y l. get_d_set M.state.contexts x y q no_context (λ (c : Context). c.rem_slice ≤ full_slice) (o.slice x f.name) (o.slice y l);
      }))
      (λ t. rw t
      (record {
        v = o.v;
        total_weight = weight;
        vtime = λ y l. get_d_set M.state.contexts x y (with_new_key q) no_context (λ (c : Context). c.vtime ≤ b_charged * ((i + 1) + 1)) lag (later y l);
        slice = λ y l. get_d_set M.state.contexts x y (with_new_key q) no_context (λ (c : Context). c.rem_slice ≤ full_slice) (o.slice x f.name) (o.slice y l);
      }))

-- a move after what may have found no room
pub moves_then : (n : ℕ) (runs : Bool) (e : Entry) {m r : Moving} {M : model_steal.Moving} → MovingTracks n m M → MovingTracks n r (move_entry runs (moving_in n m) e) → MovingTracks n r (move_entry runs M e)
moves_then n runs e {m} {r} {M} a b =
    by_test M.state.no_room
    (λ h.
    record {
      state = b.state;
      victim = b.victim;
      room = b.room ∙ move_stays runs (moving_in n m) e (a.room ∙ h) ∙ sym (move_stays runs M e h);
      is = λ z. never (move_stays runs M e h) z;
    })
    (λ h. subst (λ (z : model_steal.Moving). MovingTracks n r (move_entry runs z e)) (a.is h) b)

-- m: after the first i of xs, from M
pub record Going (n : ℕ) (runs : Bool) (M : model_steal.Moving) (xs : List Entry) (m : Moving) (i : ℕ) : Type 0 where
  pub few : length xs ≤ 2
  pub fit : All (EntryFits n) xs
  pub below : MovedBelow n i (fold (move_entry runs) M (take i xs)).state
  pub tracks : MovingTracks n m (fold (move_entry runs) M (take i xs))

module _ (n : ℕ) (runs : Bool) (M : model_steal.Moving) (xs : List Entry) (m : Moving) (i : ℕ) (c : Going n runs M xs m i) (h : i < length xs) where
  module _ (d : Entry) where
    pub goes_fits : EntryFits n (get_or xs i d)
    goes_fits = all_get_d (EntryFits n) xs i d h c.fit

    pub goes_on : {r : Moving} → MovingTracks n r (move_entry runs (moving_in n m) (get_or xs i d)) → Going n runs M xs r (i + 1)
    goes_on {r} t =
        let N : model_steal.Moving = fold (move_entry runs) M (take i xs) in
        let y : move_entry runs N (get_or xs i d) ≡ fold (move_entry runs) M (take (i + 1) xs) = sym (fold_next (move_entry runs) M xs i d h) in
        record {
          few = c.few;
          fit = c.fit;
          below = subst (λ (a : model_steal.Moving). MovedBelow n (i + 1) a.state) y (move_adds n i runs N (get_or xs i d) goes_fits c.below);
          tracks = subst (λ (a : model_steal.Moving). MovingTracks n r a) y (moves_then n runs (get_or xs i d) c.tracks t);
        }
