use Rattle.measure.proofs.Looking.{no_records, next_record, last_record}
use native.Mathlib.Omega.{arith}
use Rattle.measure.proofs.records.Goals as goal

-- src/lib.rt:80:5
pub loop-x-init : goal.loop-x-init
loop-x-init c = no_records _ _

-- src/lib.rt:81:9
pub of_record-b-requires : goal.of_record-b-requires
of_record-b-requires c = omega (arith, c.context_place.ensures, c.requires.1)

-- src/lib.rt:80:5
pub loop-x-preserved : goal.loop-x-preserved
loop-x-preserved c = next_record _ _ _ _ _ c.context_place.ensures c.loop-x.invariant c.of_record-b.ensures

-- src/lib.rt:71:1
pub returns : goal.returns
returns c = last_record _ _ _ _ c.loop-x-test.false c.loop-x.invariant
