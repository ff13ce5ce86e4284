use mathlib.Core.Path.{refl}
use Rattle.select.proofs.Cleaning.{lightened_fits, clean_then}
use Rattle.select.proofs.clean_up.clean_up.Goals as goal

pub store_block-requires : goal.store_block-requires
store_block-requires c = record { image = c.requires.image; block_fits = lightened_fits _ _ _ _ c.args.cpu.present c.requires.image c.load_block-old.ensures c.queue_len-len.ensures.2 c.lightened-b.ensures }

pub remove_keys-requires : goal.remove_keys-requires
remove_keys-requires c = record { image = c.store_block.ensures.image refl }

pub returns : goal.returns
returns c = clean_then _ _ _ _ c.args.cpu.present c.requires.image c.load_block-old.ensures c.queue_len-len.ensures.2 c.lightened-b.ensures _ c.store_block.ensures c.remove_keys.ensures
