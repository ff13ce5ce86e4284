-- `handover::requeuing::requeue` meets its contract. Assumes nothing.
use Rattle.stages.proofs.Reading.{sched_named, context_fits}
use Rattle.handover.proofs.Requeued.{requeued_as}
use Rattle.handover.proofs.requeuing.requeue.Goals as goal

pub load-q-requires : goal.load-q-requires
load-q-requires c = record { image = c.requires.image; x_lt_n = sched_named _ _ c.load_block-b.ensures _ c.index-x.ensures c.requires.image c.args.cpu.present }

pub requeue_context-requires : goal.requeue_context-requires
requeue_context-requires c = let g = sched_named _ _ c.load_block-b.ensures _ c.index-x.ensures c.requires.image c.args.cpu.present in record { image = c.requires.image; bounded = (g); context_fits = context_fits c.requires.image _ g c.load-q.ensures }

pub returns : goal.returns
returns c = requeued_as _ _ _ c.load_block-b.ensures c.index-x.ensures c.load-q.ensures c.requeue_context.ensures
