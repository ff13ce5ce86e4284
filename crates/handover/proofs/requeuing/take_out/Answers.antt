-- `handover::requeuing::take_out` meets its contract. Assumes nothing.
use Rattle.handover.proofs.Requeued.{taken_out, taken_not}
use Rattle.handover.proofs.requeuing.take_out.Goals as goal

pub returns-then-q : goal.returns-then-q
returns-then-q c = taken_out c.args.q c.if-q.true c.queue_key.ensures c.remove_key.ensures

pub returns-else-q : goal.returns-else-q
returns-else-q c = taken_not c.args.q c.if-q.false c.requires.image
