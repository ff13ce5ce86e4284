use Rattle.wakeup_lists.proofs.Pushed.{pushed_on}
use native.Mathlib.Omega.{arith}
use Rattle.wakeup_lists.proofs.push.Goals as goal

pub returns-clause-b_after : goal.returns-clause-b_after
returns-clause-b_after c = λ p e. pushed_on c.args.list p _ _ _ _ _ _ _ e c.names-names.ensures.0 c.count-count.ensures.0 c.index-n.ensures (omega (arith, rw c.count-count.ensures.0 at c.index-n.ensures)) c.insert_at.ensures c.word.ensures
