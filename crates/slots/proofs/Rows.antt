-- A row of a board, its length and its place. Assumes nothing.
use mathlib.Core.Path.{◌≡◌, refl, ap, ◌∙◌}
use Prim.Native.Nat.{ℕ, ◌+◌, ◌-◌, ◌≤◌}
use native.Mathlib.Omega.{arith}
use mathlib.Core.List.{List}
use lib.ListN.{length, length-append, length-replicate}
use borrow.Rule.Slice.PartMut.{put_mid}
use Rattle.columns.specs.Blocks.{splice, splice_is}
use Rattle.board.specs.Board.{row_size, padded}

pub put_row_is : (b : List ℕ) (at : ℕ) (row : List ℕ) {l : List ℕ} → l ≡ padded row → put_mid at (at + row_size - at) b l ≡ splice b at row_size (padded row)
put_row_is b at row {l} e = splice_is b at (at + row_size) row_size l refl ∙ ap (λ (w : List ℕ). splice b at row_size w) e

pub length_padded : (row : List ℕ) → length row ≤ row_size → length (padded row) ≡ row_size
unfolding padded
length_padded row h = simp (length-append, length-replicate) (omega arith)
