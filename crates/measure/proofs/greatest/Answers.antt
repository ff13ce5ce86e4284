use Rattle.measure.proofs.Looking.{greatest_first, greatest_next, greatest_last}
use Rattle.measure.proofs.greatest.Goals as goal

pub loop-word-init : goal.loop-word-init
loop-word-init c = greatest_first _ _ _

pub loop-word-preserved : goal.loop-word-preserved
loop-word-preserved c = greatest_next _ _ _ _ _ _ c.max-top.ensures c.loop-word.invariant

pub returns : goal.returns
returns c = greatest_last _ _ _ _ _ _ c.loop-word-test.false c.loop-word.invariant
