use native.Mathlib.Omega.{arith}
use Rattle.measure.proofs.Looking.{sliced, times_within}
use Rattle.measure.proofs.block_times.Goals as goal

-- src/lib.rt:51:1
pub returns : goal.returns
returns c = times_within _ _ _ _ _ _ (sliced _ _ _ _ _ (omega arith) (omega arith) c.greatest-clock.ensures) (sliced _ _ _ _ _ (omega arith) (omega arith) c.greatest-counted.ensures) (sliced _ _ _ _ _ (omega arith) (omega arith) c.greatest.ensures)
