use Rattle.window.proofs.Summing.{none_summed, one_more, all_summed, time_most}
use native.Mathlib.Omega.{arith}
use Rattle.window.proofs.sum.Goals as goal

pub loop-i-init : goal.loop-i-init
loop-i-init c = (c.index-count.ensures, none_summed c.args.whose c.args.w.now, omega arith)

pub overflow_add-total : goal.overflow_add-total
overflow_add-total c = record { fits = omega (arith, c.time_for-total.ensures.1, time_most c.args.n c.args.w.now c.requires c.loop-i.i (omega (arith, c.loop-i-test.true, c.loop-i.invariant.0)), c.requires.count) }

pub loop-i-preserved : goal.loop-i-preserved
loop-i-preserved c = (c.loop-i.invariant.0, one_more c.args.whose c.args.w.now c.loop-i.i _ _ c.loop-i.invariant.1 c.time_for-total.ensures.0, omega (arith, c.time_for-total.ensures.1, time_most c.args.n c.args.w.now c.requires c.loop-i.i (omega (arith, c.loop-i-test.true, c.loop-i.invariant.0))))

pub returns : goal.returns
returns c = all_summed c.args.whose c.args.w.now c.loop-i.i _ _ c.loop-i.auto.i-end c.loop-i-test.false c.loop-i.invariant.0 c.loop-i.invariant.1
