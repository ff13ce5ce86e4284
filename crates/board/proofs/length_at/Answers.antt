use mathlib.Core.Path.{◌≡◌, refl}
use mathlib.Core.List.{List}
use Prim.Native.Nat.{ℕ, zero, suc, ◌≤◌}
use native.Mathlib.Omega.{arith}
use lib.ListN.{get_or}
use Rattle.board.specs.Board.{length_place, cue_at, length_of}
use Rattle.board.proofs.length_at.Goals as goal

length_is : (k i r : ℕ) (b : List ℕ) → r ≤ 1 → get_or b (length_place k i r) 0 ≡ length_of r (cue_at k b i)
unfolding cue_at
length_is k i zero b h = refl
length_is k i (suc zero) b h = refl
length_is k i (suc (suc r)) b h = absurd (omega arith)

pub returns : goal.returns
returns c = rw (c.from.ensures, c.length_place.ensures) (length_is c.args.k c.args.i c.args.r c.args.b.now c.requires.i_lt_k.1)
