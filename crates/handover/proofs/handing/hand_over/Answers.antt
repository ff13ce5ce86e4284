-- `handover::handing::hand_over` meets its contract. Assumes nothing.
use Rattle.stages.proofs.Reading.{sched_named, block_fits, context_fits}
use Rattle.handover.proofs.Handed.{time_below, handed_as}
use Rattle.handover.proofs.handing.hand_over.Goals as goal

pub load-q-requires : goal.load-q-requires
load-q-requires c = record { image = c.requires.image; x_lt_n = sched_named _ _ c.load_block-b.ensures _ c.index-y.ensures c.requires.image c.args.cpu.present }

pub hand_from-requires : goal.hand_from-requires
hand_from-requires c = let g = sched_named _ _ c.load_block-b.ensures _ c.index-y.ensures c.requires.image c.args.cpu.present in record { image = c.requires.image; bounded = (c.requires.bounded.0, g); block_fits = block_fits c.requires.image _ c.args.cpu.present c.load_block-b.ensures; context_fits = context_fits c.requires.image _ g c.load-q.ensures; sched_cpu_time_bound = (time_below _ _ c.load_block-b.ensures _ c.index-y.ensures _ c.load-q.ensures c.requires.ranged g, c.requires.bounded.1) }

pub returns : goal.returns
returns c = handed_as _ _ c.load_block-b.ensures _ c.index-y.ensures _ c.load-q.ensures c.args.time c.args.was_idle c.args.x c.hand_from.ensures
