use Rattle.run.proofs.Running.{stored}
use lib.ListN.{length-set}
use native.Mathlib.Omega.{arith}
use Rattle.run.proofs.put_answer.Goals as goal

-- src/lib.rt:42:5
pub bounds-answers-at-2 : goal.bounds-answers-at-2
bounds-answers-at-2 c = simp length-set (omega (arith, c.requires))

-- src/lib.rt:43:5
pub bounds-answers-at-3 : goal.bounds-answers-at-3
bounds-answers-at-3 c = simp length-set (omega (arith, c.requires))

-- src/lib.rt:44:5
pub bounds-answers-at-4 : goal.bounds-answers-at-4
bounds-answers-at-4 c = simp length-set (omega (arith, c.requires))

-- src/lib.rt:36:1
pub returns : goal.returns
returns c = stored _ _ _ c.requires
