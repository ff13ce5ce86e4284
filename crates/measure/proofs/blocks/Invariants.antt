use Rattle.measure.specs.Measured.{BlocksMeasured}
use Rattle.measure.proofs.blocks.Given as goal

abbrev pub invariant-loop-k : goal.invariant-loop-k
invariant-loop-k l = BlocksMeasured l.m l.k l.n l.initial.b l.b
