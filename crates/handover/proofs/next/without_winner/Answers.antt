-- `handover::next::without_winner` meets its contract. Assumes nothing.
use Rattle.handover.proofs.Advanced.{next_runs, next_idle, next_from}
use Rattle.handover.proofs.next.without_winner.Goals as goal

pub returns-then-runs : goal.returns-then-runs
returns-then-runs c = λ M e o. next_runs c.args.runs _ c.if-runs.true

pub returns-then-b : goal.returns-then-b
returns-then-b c = λ M e o. next_idle _ _ c.load_block-b.ensures M e o c.args.runs c.if-runs.false c.if-b.true

pub returns : goal.returns
returns c = λ M e o. next_from _ _ c.load_block-b.ensures _ M e o c.args.runs c.if-runs.false c.if-b.false c.index.ensures
