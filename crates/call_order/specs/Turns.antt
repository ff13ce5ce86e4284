-- When a switch falls on no stealing turn, by words of the first image alone. Assumes nothing.
use Rattle.std.specs.Prelude.{◌≡◌, ◌≢◌, false, ℕ, ◌%◌}
use Rattle.percpu.specs.declared.PercpuBlock.{PercpuBlock}
use Rattle.machine.specs.Machine.{Machine, cpu_at}
use Rattle.model.specs.Steal.{idle_steal_interval, steal_interval}
use Rattle.model_local.specs.Apart.{falls_on_stealing_turn}

abbrev pub block_at : Machine → ℕ → PercpuBlock
block_at M k = (cpu_at M k).block

-- of every time
pub record Quiet (k : ℕ) (M : Machine) : Type 0 where
  pub odd : (block_at M k).steal_counter % idle_steal_interval ≢ 0 → (time : ℕ) → falls_on_stealing_turn k time M ≡ false
  pub not_idle : (block_at M k).sched_ctxt ≢ (block_at M k).idle_ctxt → (block_at M k).steal_counter % steal_interval ≢ 0 → (time : ℕ) → falls_on_stealing_turn k time M ≡ false
