use Rattle.measure.specs.Measured.{RecordsMeasured}
use Rattle.measure.proofs.records.Given as goal

abbrev pub invariant-loop-x : goal.invariant-loop-x
invariant-loop-x l = RecordsMeasured l.m l.x l.b
