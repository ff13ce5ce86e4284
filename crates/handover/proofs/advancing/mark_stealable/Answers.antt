-- `handover::advancing::mark_stealable` meets its contract. Assumes nothing.
use Rattle.model.specs.Steal.{mark_stealable}
use Rattle.stages.proofs.Reading.{block_fits, stored_as}
use Rattle.handover.proofs.Advanced.{stealable_as, stealable_fits}
use Rattle.handover.proofs.advancing.mark_stealable.Goals as goal

pub store_block-requires : goal.store_block-requires
store_block-requires c = record { image = c.requires.image; block_fits = stealable_fits c.load_block-b.result _ (block_fits c.requires.image _ c.args.cpu.present c.load_block-b.ensures) }

pub returns : goal.returns
returns c = stored_as mark_stealable c.store_block.ensures (λ M e o. stealable_as _ c.load_block-b.result _ (c.load_block-b.ensures M e o) (c.queue_len-len.ensures.2 M e o))
