use borrow.Author.Tests.{ne_eqb}
use Rattle.context_ops.specs.Reply.{reply}
use Rattle.priority_trial.proofs.Trying.{refused_after, accepted_after}
use Rattle.priority_trial.proofs.in_charge_after.Goals as goal

pub returns-else-a-eq0 : goal.returns-else-a-eq0
returns-else-a-eq0 c = rw (ne_eqb _ 0 c.if-a-eq0.false) (refused_after _ _ _ (reply c.args.a _) c.if-a-eq0.false)

pub returns-then-a-eq0 : goal.returns-then-a-eq0
returns-then-a-eq0 c = accepted_after _ _ _ _ _ c.if-a-eq0.true c.cpu_place-at.ensures c.word.ensures
