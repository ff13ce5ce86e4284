-- Numbers in a lent part of the bytes. Assumes nothing.
use mathlib.Core.Path.{◌≡◌, refl, ap, ◌∙◌}
use Prim.Native.Nat.{ℕ, ◌+◌, ◌-◌, ◌≤◌}
use mathlib.Core.List.{List}
use lib.ListN.{length, take, drop}
use borrow.Rule.Slice.PartMut.{put_mid}
use Rattle.columns.specs.Blocks.{splice, part_is, splice_is, length_splice}
use Rattle.le_bytes.specs.LeBytes.{from_le_bytes, to_le_bytes}
use Rattle.le_bytes.proofs.Bytes.{length_le_bytes}
use Rattle.board.specs.Board.{number_at, put_number}

pub number_is : (b : List ℕ) (at : ℕ) {r : ℕ} → r ≡ from_le_bytes (take (at + 8 - at) (drop at b)) → r ≡ number_at b at
number_is b at e = e ∙ ap from_le_bytes (part_is b at (at + 8) 8 refl)

pub put_number_is : (b : List ℕ) (at x : ℕ) {l : List ℕ} → l ≡ to_le_bytes 8 x → put_mid at (at + 8 - at) b l ≡ put_number b at x
put_number_is b at x {l} e = splice_is b at (at + 8) 8 l refl ∙ ap (λ (w : List ℕ). splice b at 8 w) e

pub length_put_number : (b : List ℕ) (at x : ℕ) → at + 8 ≤ length b → length (put_number b at x) ≡ length b
length_put_number b at x h = length_splice b at 8 (to_le_bytes 8 x) h (length_le_bytes 8 x)
