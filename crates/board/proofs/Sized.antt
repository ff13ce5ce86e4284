-- The sizes of a board, by their test. Assumes nothing.
use mathlib.Core.Path.{◌≡◌, refl}
use mathlib.Core.Bool.{true, false}
use Prim.Native.Nat.{ℕ, ◌<◌, ◌≤◌}
use native.Mathlib.Omega.{arith}
use mathlib.Core.List.{List}
use lib.ListN.{length}
use lib.Dec.{leb, ltb, eqb}
use Rattle.columns.proofs.Tests.{by_test, and_both}
use borrow.Author.Tests.{leb-true, ltb-true, eqb-true}
use Rattle.std.specs.Prelude.{Result, Ok, Err}
use Rattle.board.specs.declared.Sizes.{Sizes}
use Rattle.board.specs.declared.Refusal.{Refusal}
use Rattle.board.specs.declared.Refusal.TheVariants.{WrongSizes, LongRow, EarlyStart, FullBoard}
use Rattle.board.specs.Board.{Board, header_size, max_capacity, capacity, stored, handed_out, board_size, is_sized, sizes_of, refusal_number}

-- what right sizes say
pub record IsRight (b : List ℕ) (k n h : ℕ) : Type 0 where
  pub sized : is_sized b ≡ true
  pub capacity_is : k ≡ capacity b
  pub stored_is : n ≡ stored b
  pub handed_is : h ≡ handed_out b
  pub board : Board k b
  pub some : 0 < k
  pub fewer : n ≤ k
  pub handed : h ≤ n

pub sized_is : (b : List ℕ) → is_sized b ≡ true → IsRight b (capacity b) (stored b) (handed_out b)
unfolding is_sized
sized_is b e =
    let p = and_both _ (leb (handed_out b) (stored b)) e
    in let q = and_both _ (leb (stored b) (capacity b)) p.0
    in let r = and_both _ (eqb (length b) (board_size (capacity b))) q.0
    in let s = and_both _ (leb (capacity b) max_capacity) r.0
    in let t = and_both (leb header_size (length b)) (ltb 0 (capacity b)) s.0
    in record {
      sized = e;
      capacity_is = refl;
      stored_is = refl;
      handed_is = refl;
      board = record { size = eqb-true (length b) (board_size (capacity b)) r.1; most = leb-true (capacity b) max_capacity s.1 };
      some = ltb-true 0 (capacity b) t.1;
      fewer = leb-true (stored b) (capacity b) q.1;
      handed = leb-true (handed_out b) (stored b) p.1;
    }

-- what the code found the sizes to be
module _ (b : List ℕ) where
  abbrev found : Sizes
  found = record { capacity = capacity b; stored = stored b; handed_out = handed_out b }

  pub wrong_is : (r : Refusal) → Err r ≡ sizes_of b → (is_sized b ≡ false) × (r ≡ WrongSizes)
  unfolding sizes_of
  wrong_is r e = by_test (is_sized b) (λ t. absurd (no (rw t at e))) (λ t. (t, yes (rw t at e)))
    where
      no : ◌≡◌ {A = Result Sizes Refusal} (Err r) (Ok found) → ⊥
      no q = let w : ◌≡◌ {A = ℕ} 0 1 = cc in omega arith

      yes : ◌≡◌ {A = Result Sizes Refusal} (Err r) (Err WrongSizes) → r ≡ WrongSizes
      yes q = cc

  pub right_is : (s : Sizes) → Ok s ≡ sizes_of b → IsRight b s.capacity s.stored s.handed_out
  unfolding sizes_of
  right_is s e = by_test (is_sized b) (λ t. yes t (rw t at e)) (λ t. absurd (no (rw t at e)))
    where
      no : ◌≡◌ {A = Result Sizes Refusal} (Ok s) (Err WrongSizes) → ⊥
      no q = let w : ◌≡◌ {A = ℕ} 0 1 = cc in omega arith

      yes : is_sized b ≡ true → ◌≡◌ {A = Result Sizes Refusal} (Ok s) (Ok found) → IsRight b s.capacity s.stored s.handed_out
      yes t q = let w : s ≡ found = cc in rw w (sized_is b t)

pub refused_number : (r : Refusal) → refusal_number r ≡ 0 → ⊥
refused_number WrongSizes e = omega (arith, e)
refused_number LongRow e = omega (arith, e)
refused_number EarlyStart e = omega (arith, e)
refused_number FullBoard e = omega (arith, e)
