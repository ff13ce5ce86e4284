use mathlib.Core.Path.{refl}
use Rattle.select.proofs.Cleaning.{without_fits, dequeued_key, dequeued_none}
use Rattle.select.proofs.clean_up.dequeue.Goals as goal

pub store_context-requires : goal.store_context-requires
store_context-requires c = record { image = c.requires.image; bounded = (c.requires.bounded); context_fits = without_fits _ _ c.args.cpu.present c.requires.image c.requires.bounded c.load-q.ensures c.without_key-unqueued.ensures }

pub remove_key-requires : goal.remove_key-requires
remove_key-requires c = record { image = c.store_context.ensures.image refl }

pub returns-then-q : goal.returns-then-q
returns-then-q c = dequeued_key _ _ c.args.cpu.present c.requires.image c.requires.bounded c.load-q.ensures c.if-q.true c.without_key-unqueued.ensures c.queue_key.ensures c.store_context.ensures c.remove_key.ensures

pub returns-else-q : goal.returns-else-q
returns-else-q c = dequeued_none _ _ c.args.cpu.present c.requires.image c.requires.bounded c.load-q.ensures c.if-q.false
