use Rattle.run.proofs.Running.{unfit_calls, unfit_answers, all_made}
use native.Mathlib.Omega.{arith}
use Rattle.run.proofs.run.Goals.{then-calls-ne0-via-then-calls-ne0, then-calls-ne0-via-else-calls-ne0+then-answers-calls}
use Rattle.run.proofs.run.Goals as goal

pub returns-then-calls-ne0 : goal.returns-then-calls-ne0
returns-then-calls-ne0 c =
    elim c.then-calls-ne0.branch [
      | then-calls-ne0-via-then-calls-ne0 w ↦ unfit_calls _ _ _ w.if-calls-ne0.true
      | then-calls-ne0-via-else-calls-ne0+then-answers-calls w ↦ unfit_answers _ _ _ w.if-calls-ne0.false w.if-answers-calls.true
    ]

-- src/lib.rt:72:5
pub make_calls-requires : goal.make_calls-requires
make_calls-requires c = (omega (arith, c.if-calls-ne0.false), c.if-answers-calls.false)

-- src/lib.rt:62:1
pub returns : goal.returns
returns c = all_made _ _ _ _ _ _ c.if-calls-ne0.false c.if-answers-calls.false c.word.ensures c.make_calls.ensures
