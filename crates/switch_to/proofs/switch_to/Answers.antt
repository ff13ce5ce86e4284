-- `switch_to::switch_to` meets its contract. Assumes nothing.
use Rattle.stages.proofs.Reading.{block_fits, context_fits}
use Rattle.switch_to.proofs.Switching.{current_named, time_below, switched_as}
use Rattle.switch_to.proofs.switch_to.Goals as goal

pub load-q-requires : goal.load-q-requires
load-q-requires c = record { image = c.requires.image; x_lt_n = current_named _ _ c.load_block-b.ensures _ c.index-y.ensures c.requires.image c.args.cpu.present }

pub switch_from-requires : goal.switch_from-requires
switch_from-requires c = let l = current_named _ _ c.load_block-b.ensures _ c.index-y.ensures c.requires.image c.args.cpu.present in record { image = c.requires.image; bounded = (c.requires.bounded.0, l); block_fits = block_fits c.requires.image _ c.args.cpu.present c.load_block-b.ensures; context_fits = context_fits c.requires.image _ l c.load-q.ensures; active_cpu_time_bound = (time_below _ _ c.load_block-b.ensures _ c.index-y.ensures _ c.load-q.ensures c.requires.ranged l, c.requires.bounded.1) }

pub returns : goal.returns
returns c = switched_as _ _ c.load_block-b.ensures _ c.index-y.ensures _ c.load-q.ensures c.args.time c.args.x c.switch_from.ensures
