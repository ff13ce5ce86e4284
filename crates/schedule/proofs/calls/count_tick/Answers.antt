-- `schedule::calls::count_tick` meets its contract. Assumes nothing.
use mathlib.Core.Path.{ap}
use Prim.Native.Nat.{◌+◌}
use native.Mathlib.Omega.{arith}
use Rattle.percpu.specs.declared.PercpuBlock.{PercpuBlock}
use Rattle.percpu.specs.Cpu.{Cpu}
use Rattle.percpu.specs.With.{cpu_pit_ticks}
use Rattle.stages.proofs.Reading.{block_fits, stored_with}
use Rattle.schedule.proofs.Called.{pit_below, ticked_as, ticked_fits}
use Rattle.schedule.proofs.calls.count_tick.Goals as goal

pub overflow_add-count : goal.overflow_add-count
overflow_add-count c = let z = pit_below _ c.load_block-b.result c.requires.ranged c.args.cpu.present c.load_block-b.ensures in omega arith

pub store_block-requires : goal.store_block-requires
store_block-requires c = record { image = c.requires.image; block_fits = ticked_fits c.load_block-b.result _ (block_fits c.requires.image _ c.args.cpu.present c.load_block-b.ensures) }

pub returns : goal.returns
returns c = stored_with (λ (p : Cpu). cpu_pit_ticks (p.block.pit_ticks + 1) p) c.store_block.ensures (λ M e o. (ticked_as _ c.load_block-b.result (c.load_block-b.ensures M e o), ap (λ (b : PercpuBlock). b.pit_ticks + 1) (c.load_block-b.ensures M e o)))
