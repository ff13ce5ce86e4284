-- What the code tells of a turn is what the writer can force. Assumes nothing.
use Rattle.std.specs.Prelude.{Option, is_some}
use mathlib.Core.Path.{◌≡◌, refl, sym, ap, ◌∙◌}
use mathlib.Core.Bool.{Bool, false}
use mathlib.Core.List.{List}
use Prim.Native.Nat.{ℕ, zero, suc, ◌+◌, ◌≤◌}
use native.Mathlib.Omega.{arith}
use native.Mathlib.Numerals.{sub-one}
use lib.Dec.{eqb}
use borrow.Author.Tests.{eqb-true, eq-eqb}
use Rattle.columns.proofs.Tests.{by_test}
use Rattle.rounds.specs.declared.Choice.{Choice}
use Rattle.rounds.specs.declared.Choice.TheVariants.{GoOn}
use Rattle.rounds.specs.Round.{nanos, played}
use Rattle.rival.specs.declared.turns.Parties.{Parties}
use Rattle.rival.specs.Game.{in_charge, won, turn, some_choice, first_choice, forces, forces_after, forces_against}
use Rattle.rival.proofs.Choices.{some_first}

module _ (p : Parties) (time : ℕ) (m : List ℕ) where
  -- with the writer in charge it is the writer's turn
  pub forces_writer : (r : ℕ) → 1 ≤ r → in_charge p m ≡ p.writer → forces p r time m ≡ some_choice (forces_after p r time m p.writer)
  unfolding forces turn
  forces_writer zero h e = absurd (omega arith)
  forces_writer (suc r) h e = rw (e, eq-eqb p.writer p.writer refl, sub-one)

  -- a go on asks nothing of who is in charge
  go_on_same : (x y : ℕ) → played p.cpu x time GoOn m ≡ played p.cpu y time GoOn m
  unfolding played
  go_on_same x y = refl

  pub forces_others : (r : ℕ) → 1 ≤ r → eqb (in_charge p m) p.writer ≡ false → forces p r time m ≡ forces_against p r time m
  unfolding forces turn
  forces_others zero h e = absurd (omega arith)
  forces_others (suc r) h e =
      rw e (by_test (eqb (in_charge p m) p.rival)
      (λ t. rw (eqb-true (in_charge p m) p.rival t, eq-eqb p.rival p.rival refl, sub-one))
      (λ t. rw (t, sub-one) (ap (won (forces p r (time + nanos GoOn))) (go_on_same (in_charge p m) p.rival))))

  -- own: whether the writer is in charge, as the code tells it
  pub told_end : (r : ℕ) {own : Bool} → eqb (in_charge p m) p.writer ≡ own → r ≡ 0 → own ≡ forces p r time m
  unfolding forces
  told_end r f e = rw e (sym f)

  pub told_writer : (r : ℕ) (w : Option Choice) → (r ≡ 0 → ⊥) → in_charge p m ≡ p.writer → w ≡ first_choice (forces_after p r time m p.writer) → is_some w ≡ forces p r time m
  told_writer r w h e f =
      ap is_some f ∙ some_first (forces_after p r time m p.writer) ∙ sym (forces_writer r (omega arith) e)

  pub told_rival : (r : ℕ) {b : Bool} → (r ≡ 0 → ⊥) → eqb (in_charge p m) p.writer ≡ false → b ≡ forces_against p r time m → b ≡ forces p r time m
  told_rival r h e f = f ∙ sym (forces_others r (omega arith) e)
