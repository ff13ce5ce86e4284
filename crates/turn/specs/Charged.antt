-- `charge_holder` by the values that the code has read: the block b, the holder's number x and its record q. Assumes nothing.
use Rattle.std.specs.Prelude.{Bool, ℕ, ◌-◌, if◌then◌else◌}
use Rattle.context.specs.declared.Context.{Context}
use Rattle.context.specs.Status.{is_runnable}
use Rattle.ticks.specs.declared.Spent.{Spent}
use Rattle.weights.specs.Weights.{weight}
use Rattle.charging.specs.Charge.{charged, stopped}
use Rattle.percpu.specs.declared.PercpuBlock.{PercpuBlock}
use Rattle.percpu.specs.Cpu.{Cpu}
use Rattle.percpu.specs.With.{block_total_weight, cpu_block}
use Rattle.model.specs.State.{State, put_context, on_cpu, insert_newest_timer}

-- the total weight without a context that stops
abbrev pub weight_left : PercpuBlock → Context → PercpuBlock
weight_left b q = block_total_weight (if q.is_active then b.total_weight - weight q.prio else b.total_weight) b

abbrev pub left : ℕ → PercpuBlock → Context → State → State
left x b q s = put_context x (stopped q) (on_cpu (λ (p : Cpu). cpu_block (weight_left b q) p) s)

unfoldable pub stopped_by : ℕ → PercpuBlock → Context → State → State
stopped_by x b q s = if q.has_wake then insert_newest_timer (record { wake = q.wake; context_ref = x }) (left x b q s) else left x b q s

unfoldable pub charged_by : Spent → ℕ → PercpuBlock → Context → State → State
charged_by spent x b q s =
    if is_runnable q.status then put_context x (charged b.v spent q) s else stopped_by x b q s
