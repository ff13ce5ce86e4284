use mathlib.Core.Path.{refl}
use Rattle.humblest.proofs.Searching.{works_here, fails_here, none_left}
use Rattle.humblest.proofs.search.Goals as goal

pub returns-then-works : goal.returns-then-works
returns-then-works c = works_here _ _ _ _ c.loop-p-test.true c.loop-p.invariant c.works.ensures c.if-works.true

pub loop-p-preserved : goal.loop-p-preserved
loop-p-preserved c = fails_here _ _ _ _ c.loop-p-test.true c.loop-p.invariant c.works.ensures c.if-works.false

pub returns : goal.returns
returns c = none_left _ _ _ c.loop-p-test.false c.loop-p.invariant refl
