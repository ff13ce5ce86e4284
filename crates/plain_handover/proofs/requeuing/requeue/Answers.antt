use Rattle.plain_handover.proofs.Handed.{requeued_holder}
use Rattle.plain_handover.proofs.requeuing.requeue.Goals as goal

pub returns : goal.returns
returns c = requeued_holder c.args.n c.args.s c.index-x.ensures c.context.ensures c.requeue_context.ensures
