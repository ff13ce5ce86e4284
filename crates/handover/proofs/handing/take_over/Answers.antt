-- `handover::handing::take_over` meets its contract. Assumes nothing.
use mathlib.Core.Path.{refl}
use Rattle.stages.proofs.Reading.{context_fits}
use Rattle.handover.proofs.Handed.{taken_fits, sched_fits, taken_over_as}
use Rattle.handover.proofs.handing.take_over.Goals as goal

pub store_context-requires : goal.store_context-requires
store_context-requires c = record { image = c.requires.image; bounded = c.requires.bounded; context_fits = taken_fits c.load-q.result c.args.time c.take-after.ensures (context_fits c.requires.image _ c.requires.bounded c.load-q.ensures) }

pub store_block-requires : goal.store_block-requires
store_block-requires c = record { image = c.store_context.ensures.image refl; block_fits = sched_fits c.args.b _ _ c.word.ensures c.requires.bounded c.requires.block_fits }

pub returns : goal.returns
returns c = taken_over_as c.args.time c.args.x _ c.args.b c.load-q.result c.args.cpu.present c.word.ensures c.load-q.ensures c.take-after.ensures c.store_context.ensures c.store_block.ensures
