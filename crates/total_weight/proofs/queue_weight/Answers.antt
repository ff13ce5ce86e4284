use Rattle.total_weight.proofs.Adding.{all_added}
use Rattle.total_weight.proofs.Adding.{light_at, none_added, one_more}
use mathlib.Core.Path.{refl, sym}
use native.Mathlib.Omega.{arith}
use Rattle.total_weight.proofs.queue_weight.Goals as goal

-- src/lib.rt:28:5
pub loop-i-init : goal.loop-i-init
loop-i-init c = (c.index-count.ensures, sym (none_added _), omega arith)

-- src/lib.rt:29:9
pub overflow_add-total-in-loop-i : goal.overflow_add-total-in-loop-i
overflow_add-total-in-loop-i c = record { fits = omega (arith, light_at _ c.requires.light c.loop-i.i _ c.loop-i-test.true c.loop-i.invariant.0) }

-- src/lib.rt:28:5
pub loop-i-preserved : goal.loop-i-preserved
loop-i-preserved c = (c.loop-i.invariant.0, one_more _ c.loop-i.i _ _ c.loop-i.invariant.1 refl, omega (arith, light_at _ c.requires.light c.loop-i.i _ c.loop-i-test.true c.loop-i.invariant.0))

-- src/lib.rt:20:1
pub returns : goal.returns
returns c = all_added _ c.requires.light c.loop-i.i _ _ c.loop-i.auto.i-end c.loop-i-test.false c.loop-i.invariant.0 c.loop-i.invariant.1 c.loop-i.invariant.2
