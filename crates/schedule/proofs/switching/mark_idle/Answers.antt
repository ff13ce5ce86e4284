-- `schedule::switching::mark_idle` meets its contract. Assumes nothing.
use Rattle.cpu_stats.specs.declared.CpuState.TheVariants.{Idle}
use Rattle.cpu_stats.specs.With.{stats_state}
use Rattle.percpu.specs.Cpu.{Cpu}
use Rattle.percpu.specs.With.{cpu_stats}
use Rattle.stages.proofs.Reading.{block_fits, stored_as}
use Rattle.schedule.proofs.Inner.{idle_as, idle_fits}
use Rattle.schedule.proofs.switching.mark_idle.Goals as goal

pub store_block-requires : goal.store_block-requires
store_block-requires c = record { image = c.requires.image; block_fits = idle_fits _ _ (block_fits c.requires.image _ c.args.cpu.present c.load_block-b.ensures) }

pub returns : goal.returns
returns c = stored_as (λ (p : Cpu). cpu_stats (stats_state Idle p.block.stats) p) c.store_block.ensures (λ M e o. idle_as _ _ _ (c.load_block-b.ensures M e o) c.set_state.ensures)
