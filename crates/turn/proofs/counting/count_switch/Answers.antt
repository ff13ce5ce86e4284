-- `turn::counting::count_switch` meets its contract. Assumes nothing.
use native.Mathlib.Omega.{arith}
use Rattle.model.specs.Turn.{count_switch}
use Rattle.turn.proofs.Counted.{counted_as, counted_fits}
use Rattle.stages.proofs.Reading.{block_fits, counters_below, stored_as}
use Rattle.numbers.specs.Limits.{half_range}
use Rattle.turn.proofs.counting.count_switch.Goals as goal

pub counted-after-requires : goal.counted-after-requires
counted-after-requires c = counters_below c.args.cpu.k half_range (omega arith) c.requires.ranged c.args.cpu.present c.load_block-b.ensures

pub store_block-requires : goal.store_block-requires
store_block-requires c = record { image = c.requires.image; block_fits = counted_fits _ _ c.counted-after.ensures (block_fits c.requires.image _ c.args.cpu.present c.load_block-b.ensures) }

pub returns : goal.returns
returns c = stored_as count_switch c.store_block.ensures (λ M e o. counted_as _ _ _ (c.load_block-b.ensures M e o) c.counted-after.ensures)
