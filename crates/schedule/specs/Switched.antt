-- The ends of `schedule` and `switch_inner` by who was picked: the state and the result. Assumes nothing.
use Rattle.std.specs.Prelude.{Bool, ℕ, eqb, if◌then◌else◌, None, Option, Some}
use Rattle.cpu_stats.specs.declared.CpuState.TheVariants.{Idle}
use Rattle.cpu_stats.specs.With.{stats_state}
use Rattle.percpu.specs.Cpu.{Cpu}
use Rattle.percpu.specs.With.{cpu_stats}
use Rattle.model.specs.State.{State, on_cpu}
use Rattle.model.specs.SwitchTo.{switch_to}
use Rattle.model.specs.Handover.{hand_over}
use Rattle.answer.specs.declared.SwitchResult.{SwitchResult}
use Rattle.answer.specs.declared.SwitchResult.TheVariants.{Switched, AllContextsIdle}

-- `picked_as`, the state of it
unfoldable pub handed : (time : ℕ) (was_idle : Bool) → Option ℕ → State → State
handed time was_idle None s = s
handed time was_idle (Some x) s = hand_over time was_idle x s

-- `switch_as`, the state of it and the result
abbrev pub marked_idle : State → State
marked_idle s = on_cpu (λ (p : Cpu). cpu_stats (stats_state Idle p.block.stats) p) s

abbrev pub switched_to : (k time : ℕ) → ℕ → State → State
switched_to k time x s = if eqb s.cpu.block.current_ctxt x then s else switch_to k time x s

unfoldable pub switched : (k time : ℕ) → Option ℕ → State → State
switched k time None s = marked_idle s
switched k time (Some x) s = switched_to k time x s

unfoldable pub switch_result : Option ℕ → SwitchResult
switch_result None = AllContextsIdle
switch_result (Some x) = Switched
