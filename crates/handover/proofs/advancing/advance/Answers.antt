-- `handover::advancing::advance` meets its contract. Assumes nothing.
use Rattle.stages.proofs.Reading.{block_fits}
use Rattle.handover.proofs.Advanced.{v_below, advanced_fits, advanced_stored}
use Rattle.handover.proofs.advancing.advance.Goals as goal

pub advanced-after-requires : goal.advanced-after-requires
advanced-after-requires c = (v_below _ _ c.load_block-b.ensures c.requires.ranged c.args.cpu.present, c.requires.bounded)

pub store_block-requires : goal.store_block-requires
store_block-requires c = record { image = c.requires.image; block_fits = advanced_fits _ c.args.somebody c.args.elapsed_ticks c.advanced-after.ensures (block_fits c.requires.image _ c.args.cpu.present c.load_block-b.ensures) }

pub returns : goal.returns
returns c = advanced_stored _ _ c.load_block-b.ensures c.args.somebody c.args.elapsed_ticks c.advanced-after.ensures c.store_block.ensures
