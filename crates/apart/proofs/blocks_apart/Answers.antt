use mathlib.Core.Path.{sym}
use mathlib.Core.Bool.{true}
use Rattle.columns.proofs.Tests.{every_none, every_next, every_no, every_end}
use Rattle.apart.proofs.Words.{found, not_found}
use native.Mathlib.Omega.{arith}
use Rattle.apart.proofs.blocks_apart.Goals as goal

-- src/lib.rt:89:5
pub loop-x-init : goal.loop-x-init
loop-x-init c = every_none _

-- src/lib.rt:91:13
pub returns-then-both_name : goal.returns-then-both_name
returns-then-both_name c = sym (every_no _ _ c.loop-x.x c.loop-x-test.true (found _ _ _ _ c.word.ensures _ c.both_name.ensures c.if-both_name.true))

-- src/lib.rt:89:5
pub loop-x-preserved : goal.loop-x-preserved
loop-x-preserved c = every_next _ _ c.loop-x.invariant (not_found _ _ _ _ c.word.ensures _ c.both_name.ensures c.if-both_name.false)

-- src/lib.rt:83:1
pub returns : goal.returns
returns c = every_end _ _ _ c.loop-x-test.false c.loop-x.auto.x-end c.loop-x.invariant
