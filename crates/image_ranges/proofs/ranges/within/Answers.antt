use Rattle.image_ranges.specs.Ranges.{within}
use Rattle.columns.proofs.Tests.{every_none, every_next, every_no, every_end}
use borrow.Author.Tests.{le-leb, lt-leb}
use mathlib.Core.Path.{sym}
use native.Mathlib.Omega.{arith}
use Rattle.image_ranges.proofs.ranges.within.Goals as goal

pub loop-i-init : goal.loop-i-init
loop-i-init c = every_none _

pub returns-then-most-w : goal.returns-then-most-w
unfolding within
returns-then-most-w c = sym (every_no _ _ _ c.loop-i-test.true (lt-leb _ _ c.if-most-w.true))

pub loop-i-preserved : goal.loop-i-preserved
loop-i-preserved c = every_next _ _ c.loop-i.invariant (le-leb _ _ c.if-most-w.false)

pub returns : goal.returns
unfolding within
returns c = every_end _ _ _ (omega arith) (omega arith) c.loop-i.invariant
