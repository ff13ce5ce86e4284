use native.Mathlib.Omega.{arith}
use Rattle.measure.proofs.Looking.{sliced, record_within}
use Rattle.measure.proofs.of_record.Goals as goal

-- src/lib.rt:37:1
pub returns : goal.returns
returns c = record_within _ _ _ _ _ (sliced _ _ _ _ _ (omega arith) (omega arith) c.greatest-clock.ensures) (sliced _ _ _ _ _ (omega arith) (omega arith) c.greatest-times.ensures) (sliced _ _ _ _ _ (omega arith) (omega arith) c.greatest-virtual_times.ensures)
