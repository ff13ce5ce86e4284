use Rattle.std.proofs.Common.{rules}
use Rattle.decide.proofs.Given.{none_yet, some_more}
use Rattle.decide.proofs.input.read_on.Goals as goal

pub loop-init : goal.loop-init
loop-init g c = (search rules, search rules, none_yet _)

pub loop-preserved : goal.loop-preserved
loop-preserved g c = (search rules, search rules, some_more _ _ _ _ _ c.read_full-got.new.space c.read_full-got.ensures.within c.loop.invariant.2 c.read_full-got.ensures.bytes)
