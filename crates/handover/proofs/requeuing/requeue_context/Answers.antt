-- `handover::requeuing::requeue_context` meets its contract. Assumes nothing.
use mathlib.Core.Path.{refl}
use Rattle.handover.proofs.Requeued.{keyed_fits, entry_fits, requeued}
use Rattle.handover.proofs.requeuing.requeue_context.Goals as goal

pub store_context-requires : goal.store_context-requires
store_context-requires c = record { image = c.take_out.ensures.image refl; bounded = c.requires.bounded; context_fits = keyed_fits c.args.q c.with_new_key-after.ensures c.requires.context_fits }

pub insert_entry-requires : goal.insert_entry-requires
insert_entry-requires c = record { image = c.store_context.ensures.image refl; entry_fits = entry_fits c.args.q _ c.entry_of-e.ensures c.requires.bounded c.requires.context_fits }

pub returns : goal.returns
returns c = requeued c.args.x c.args.q c.args.cpu.present c.with_new_key-after.ensures c.entry_of-e.ensures c.take_out.ensures c.store_context.ensures c.insert_entry.ensures
