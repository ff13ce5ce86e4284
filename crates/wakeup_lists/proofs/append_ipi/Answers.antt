use Rattle.wakeup_lists.proofs.Drained.{appended_none, appended_next, appended_all}
use borrow.Author.Rules.{rules}
use native.Mathlib.Omega.{arith}
use Rattle.wakeup_lists.proofs.append_ipi.Goals as goal

pub loop-i-init : goal.loop-i-init
loop-i-init c = (c.index-k.ensures, omega arith, omega (arith, c.requires.1, c.index-k.ensures), appended_none _)

pub push-requires : goal.push-requires
push-requires c = (search rules, omega arith)

pub loop-i-preserved : goal.loop-i-preserved
loop-i-preserved c = (c.loop-i.invariant.0, omega (arith, c.push.ensures.count_after), omega arith, appended_next _ _ _ _ _ c.loop-i.invariant.0 c.loop-i-test.true c.loop-i.invariant.3 c.push.ensures.b_after)

pub returns : goal.returns
returns c = appended_all c.args.b.now _ _ c.loop-i.i c.loop-i.invariant.0 (omega arith) c.loop-i.invariant.3
