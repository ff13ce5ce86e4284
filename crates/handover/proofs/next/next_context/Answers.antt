-- `handover::next::next_context` meets its contract. Assumes nothing.
use Rattle.handover.proofs.Advanced.{next_won}
use Rattle.handover.proofs.next.next_context.Goals as goal

pub returns-in-Some : goal.returns-in-Some
returns-in-Some c = λ M e o. rw c.in-Some.is (next_won c.args.runs _ _)

pub returns-in-None : goal.returns-in-None
returns-in-None c = λ M e o. rw c.in-None.is (c.without_winner.ensures M e o)
