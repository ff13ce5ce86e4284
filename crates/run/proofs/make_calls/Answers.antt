use Rattle.run.proofs.Running.{loop_first, loop_next, loop_last}
use Rattle.run.proofs.Knowing.{unknown}
use borrow.Author.Rules.{rules}
use native.Mathlib.Omega.{arith}
use Rattle.run.proofs.make_calls.Goals as goal

-- src/lib.rt:57:5
pub loop-i-init : goal.loop-i-init
loop-i-init c = (loop_first _ _ _ _ c.requires.1, search rules, unknown _ _)

-- src/lib.rt:58:13
pub call_at-requires : goal.call_at-requires
call_at-requires c = omega (arith, c.requires.0)

-- src/lib.rt:59:13
pub make_call-r-requires : goal.make_call-r-requires
make_call-r-requires c = c.loop-i.invariant.2

-- src/lib.rt:62:9
pub put_answer-requires : goal.put_answer-requires
put_answer-requires c = omega (arith, c.requires.0, c.loop-i.invariant.0.long)

-- src/lib.rt:57:5
pub loop-i-preserved : goal.loop-i-preserved
loop-i-preserved c = (loop_next _ _ _ _ _ _ _ _ _ _ c.requires.0 c.loop-i-test.true c.loop-i.invariant.0 c.call_at.ensures c.make_call-r.ensures.replies c.put_answer.ensures (search rules), search rules, c.make_call-r.ensures.holds)

-- src/lib.rt:51:1
pub shape_of-answers : goal.shape_of-answers
shape_of-answers c = omega (arith, c.loop-i.invariant.0.long, c.requires.1)

-- src/lib.rt:51:1
pub returns : goal.returns
returns c = loop_last _ _ _ _ _ _ c.requires.0 c.loop-i-test.false c.loop-i.invariant.0
