use native.Mathlib.Omega.{arith}
use Rattle.measure.proofs.Looking.{sliced, virtual_within}
use Rattle.measure.proofs.block_virtual_times.Goals as goal

-- src/lib.rt:61:1
pub returns : goal.returns
returns c = virtual_within _ _ _ _ _ _ _ (sliced _ _ _ _ _ (omega arith) (omega arith) c.greatest-published.ensures) (sliced _ _ _ _ _ (omega arith) (omega arith) c.greatest-v.ensures) (sliced _ _ _ _ _ (omega arith) (omega arith) c.greatest-vd.ensures) (sliced _ _ _ _ _ (omega arith) (omega arith) c.greatest.ensures)
