use Rattle.window.proofs.Adding.{moved_count}
use native.Mathlib.Omega.{arith}
use Rattle.window.proofs.add.Goals as goal
use Rattle.window.proofs.add.Goals.{then-index-ge-CAPACITY, else-index-ge-CAPACITY}

pub append-requires : goal.append-requires
append-requires c =
    elim c.if-index-ge-CAPACITY.branch [
      | then-index-ge-CAPACITY w ↦ rw w.w-is (omega arith, moved_count _ _ w.drop_oldest.ensures)
      | else-index-ge-CAPACITY w ↦ rw w.w-is (omega arith, omega (arith, w.if-index-ge-CAPACITY.false))
    ]
