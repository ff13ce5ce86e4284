-- `turn::timing::times` meets its contract. Assumes nothing.
use mathlib.Core.Path.{refl}
use native.Mathlib.Omega.{arith}
use Rattle.turn.proofs.Counted.{timed_fits, timed_stage, not_late}
use Rattle.stages.proofs.Reading.{block_fits, counters_below}
use Rattle.numbers.specs.Limits.{half_range}
use Rattle.turn.proofs.timing.times.Goals as goal

pub timed-after-requires : goal.timed-after-requires
timed-after-requires c = record { counters_below = counters_below c.args.cpu.k half_range (omega arith) c.requires.ranged c.args.cpu.present c.load_block-b.ensures; elapsed_le_max_number = omega (arith, c.saturating_sub-elapsed.ensures, c.requires.bounded) }

pub store_block-requires : goal.store_block-requires
store_block-requires c = record { image = c.requires.image; block_fits = timed_fits _ _ _ _ c.timed-after.ensures (block_fits c.requires.image _ c.args.cpu.present c.load_block-b.ensures) }

pub convert-spent-requires : goal.convert-spent-requires
convert-spent-requires c = record { image = c.store_block.ensures.image refl; bounded = (not_late _ c.args.time _ c.load_block-b.ensures c.saturating_sub-elapsed.ensures c.requires.in_time) }

pub returns : goal.returns
returns c = timed_stage _ c.args.time _ c.load_block-b.ensures c.saturating_sub-elapsed.ensures c.args.cpu.present c.timed-after.ensures c.is_idle.ensures c.store_block.ensures c.convert-spent.ensures
