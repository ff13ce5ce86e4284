-- Counting and times, in the code's words. Assumes nothing.
use Rattle.std.specs.Prelude.{if◌then◌else◌}
use mathlib.Core.Path.{◌≡◌, refl, sym, ap, ◌∙◌}
use mathlib.Core.Bool.{Bool, true, false}
use Prim.Native.Nat.{ℕ, ◌+◌, ◌-◌, ◌/◌, ◌<◌, ◌≤◌}
use native.Mathlib.Omega.{arith}
use mathlib.Core.List.{List}
use Rattle.columns.specs.Common.{mark}
use Rattle.cpu_stats.specs.declared.CpuState.{CpuState}
use Rattle.cpu_stats.specs.declared.CpuState.TheVariants.{Idle, Kernel, User}
use Rattle.cpu_stats.specs.declared.CpuStats.{CpuStats}
use Rattle.cpu_stats.specs.State.{is_idle_state}
use Rattle.cpu_stats.specs.Counted.{time_added, switch_added}
use Rattle.ticks.specs.declared.Spent.{Spent}
use Rattle.ticks.specs.declared.Converted.{Converted}
use Rattle.ticks.specs.Ticks.{ticks, remainder, converted}
use Rattle.percpu.specs.declared.PercpuBlock.{PercpuBlock}
use Rattle.percpu.specs.Cpu.{Cpu}
use Rattle.percpu.specs.With.{block_pit_ticks, block_schedule_time, block_stats, cpu_block, cpu_remainder}
use Rattle.stages.specs.Read.{BlockFits}
use Rattle.machine.specs.Machine.{Machine, cpu_at}
use Rattle.machine.specs.Encode.{encode}
use Rattle.machine.specs.Shape.{Fits}
use Rattle.model.specs.State.{State, state_of, on_cpu}
use Rattle.model.specs.Turn.{count_switch, times}
use Rattle.stages.specs.Stage.{Stage, Staged}
use Rattle.stages.proofs.Compose.{stage_then, stage_as}
use Rattle.turn.specs.declared.timing.Turn.{Turn}
use Rattle.turn.specs.Turn.{turn_of, carried, spent_by, InTime}
use Rattle.numbers.specs.Limits.{max_elapsed, nanos_per_millisecond}

-- b is the block that was loaded, b' the one that is stored
module _ (p : Cpu) (b b' : PercpuBlock) (h : b ≡ p.block) where
  pub counted_as : b' ≡ block_pit_ticks 0 (block_stats (switch_added b.inside_syscall b.stats) b) → cpu_block b' p ≡ count_switch p
  counted_as e = ap (λ (x : PercpuBlock). cpu_block x p) (e ∙ ap (λ (x : PercpuBlock). block_pit_ticks 0 (block_stats (switch_added x.inside_syscall x.stats) x)) h)

  module _ (time elapsed : ℕ) (d : elapsed ≡ time - b.schedule_time) where
    since : elapsed ≡ time - p.block.schedule_time
    since = d ∙ ap (λ (x : PercpuBlock). time - x.schedule_time) h

    pub timed_as : b' ≡ block_schedule_time time (block_stats (time_added (elapsed / nanos_per_millisecond) b.stats) b) → carried elapsed (cpu_block b' p) ≡ times time p
    unfolding times
    timed_as e =
        let stored : b' ≡ block_schedule_time time (block_stats (time_added ((time - p.block.schedule_time) / nanos_per_millisecond) p.block.stats) p.block)
        = e ∙ ap (λ (y : ℕ). block_schedule_time time (block_stats (time_added (y / nanos_per_millisecond) b.stats) b)) d
        ∙ ap (λ (x : PercpuBlock). block_schedule_time time (block_stats (time_added ((time - x.schedule_time) / nanos_per_millisecond) x.stats) x)) h
        in λ j. cpu_remainder (remainder (since j) p.remainder) (cpu_block (stored j) p)

-- its names are the same
pub counted_fits : {n : ℕ} (b b' : PercpuBlock) → b' ≡ block_pit_ticks 0 (block_stats (switch_added b.inside_syscall b.stats) b) → BlockFits n b → BlockFits n b'
counted_fits b b' e o = rw e (record { current = o.current; sched = o.sched; idle = o.idle })

pub timed_fits : {n : ℕ} (b b' : PercpuBlock) (time elapsed : ℕ) → b' ≡ block_schedule_time time (block_stats (time_added (elapsed / nanos_per_millisecond) b.stats) b) → BlockFits n b → BlockFits n b'
timed_fits b b' time elapsed e o = rw e (record { current = o.current; sched = o.sched; idle = o.idle })

-- what is returned
pub turn_as : (p : Cpu) (b b' : PercpuBlock) (time elapsed : ℕ) (spent : Spent) (idle : Bool) → b ≡ p.block → elapsed ≡ time - b.schedule_time → spent ≡ spent_by elapsed (cpu_block b' p) → idle ≡ is_idle_state b.stats.state
    → record { spent = spent; was_idle = idle } ≡ turn_of time p
turn_as p b b' time elapsed spent idle h d f e = rw (e, f, d, h)

-- the carried remainder that was read, and what the conversion gave
module _ {c n k : ℕ} {m m' : List ℕ} (elapsed : ℕ) {before : ℕ} (r : Converted) (f : (M : Machine) → m ≡ encode M → Fits c n M → before ≡ (cpu_at M k).remainder) (z : r ≡ converted elapsed before) where
  pub converted_as : Staged c n k m m' false (λ (s : State). on_cpu (cpu_remainder r.remainder) s)
      → Stage c n k m m' false (record { elapsed = elapsed; ticks = r.ticks }) (λ (s : State). on_cpu (carried elapsed) s) (λ (s : State). spent_by elapsed s.cpu)
  converted_as t =
      stage_as t
      (λ M e o. (
        ap (λ (x : Converted). on_cpu (cpu_remainder x.remainder) (state_of k M)) z ∙ ap (λ (y : ℕ). on_cpu (cpu_remainder (remainder elapsed y)) (state_of k M)) (f M e o),
        λ a d. λ j. record { elapsed = elapsed; ticks = (ap (λ (x : Converted). x.ticks) z ∙ ap (ticks elapsed) (f M e o)) j },
      ))

-- b is the block that was loaded
module _ {c n : ℕ} {m : List ℕ} (k time elapsed : ℕ) {b : PercpuBlock} (hb : (M : Machine) → m ≡ encode M → Fits c n M → b ≡ (cpu_at M k).block) (d : elapsed ≡ time - b.schedule_time) where
  pub not_late : InTime c n k time m → elapsed ≤ max_elapsed
  not_late i = rw (d, hb i.M i.eq i.fits) i.in_time

  -- the block is stored, then the conversion made
  pub timed_stage : {m' m'' : List ℕ} {b' : PercpuBlock} {spent : Spent} {idle : Bool} → k < c
      → b' ≡ block_schedule_time time (block_stats (time_added (elapsed / nanos_per_millisecond) b.stats) b) → idle ≡ is_idle_state b.stats.state
      → Staged c n k m m' false (λ (s : State). on_cpu (λ (p : Cpu). cpu_block b' p) s)
      → Stage c n k m' m'' false spent (λ (s : State). on_cpu (carried elapsed) s) (λ (s : State). spent_by elapsed s.cpu)
      → Stage c n k m m'' false (record { spent = spent; was_idle = idle }) (λ (s : State). on_cpu (times time) s) (λ (s : State). turn_of time s.cpu)
  timed_stage {b' = b'} {spent = spent} {idle = idle} h e w t u =
      stage_as (stage_then h t u)
      (λ M z o. (
        ap (λ (p : Cpu). record { contexts = M.contexts; cpu = p; no_room = false }) (timed_as (cpu_at M k) b b' (hb M z o) time elapsed d e),
        λ a g. turn_as (cpu_at M k) b b' time elapsed spent idle (hb M z o) d g w,
      ))
