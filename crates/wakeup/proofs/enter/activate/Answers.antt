use Rattle.wakeup.proofs.Entering.{block_light, block_fits, activated_staged}
use Rattle.wakeup.proofs.enter.activate.Goals as goal

pub activate_block-a-requires : goal.activate_block-a-requires
activate_block-a-requires c = block_light _ c.load_block-b.ensures c.requires.bounded c.requires.paced

pub store_block-requires : goal.store_block-requires
store_block-requires c = record { image = c.requires.image; block_fits = block_fits c.args.q _ _ c.load_block-b.ensures c.activate_block-a.ensures c.requires.image c.args.cpu.present }

pub returns : goal.returns
returns c = activated_staged c.args.q _ _ c.load_block-b.ensures c.activate_block-a.ensures c.store_block.ensures
