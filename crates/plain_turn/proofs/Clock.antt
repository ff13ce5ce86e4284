-- Counting and times, in the code's words. Assumes nothing.
use mathlib.Core.Path.{◌≡◌, ap, ◌∙◌}
use Prim.Native.Nat.{ℕ, ◌-◌, ◌/◌}
use Rattle.numbers.specs.Limits.{nanos_per_millisecond}
use Rattle.cpu_stats.specs.Counted.{time_added}
use Rattle.ticks.specs.declared.Converted.{Converted}
use Rattle.ticks.specs.Ticks.{converted, remainder}
use Rattle.percpu.specs.declared.PercpuBlock.{PercpuBlock}
use Rattle.percpu.specs.With.{block_stats, block_schedule_time}
use Rattle.model.specs.State.{on_cpu}
use Rattle.model.specs.Turn.{times}
use Rattle.plain_state.specs.declared.State.{State}
use Rattle.plain_state.specs.States.{state_in, Became, Tracks}
use Rattle.plain_state.proofs.Tracking.{became_tracks}
use Rattle.plain_turn.specs.Turns.{with_turn}

module _ (n : ℕ) (s : State) {b : PercpuBlock} {r : State} where
  pub timed_tracks : (time : ℕ) {d : ℕ} {c : Converted} → d ≡ time - s.cpu.block.schedule_time → b ≡ block_schedule_time time (block_stats (time_added (d / nanos_per_millisecond) s.cpu.block.stats) s.cpu.block)
      → c ≡ converted d s.cpu.remainder → Became n r (with_turn b c.remainder (state_in n s)) → Tracks n r (on_cpu (times time) (state_in n s))
  unfolding times
  timed_tracks time {d} {c} h e f t =
      became_tracks
      (record {
        sound = t.sound;
        is =
            t.is
            ∙ (λ i. with_turn (e i) (f i).remainder (state_in n s))
            ∙ ap (λ (z : ℕ). with_turn (block_schedule_time time (block_stats (time_added (z / nanos_per_millisecond) s.cpu.block.stats) s.cpu.block)) (remainder z s.cpu.remainder) (state_in n s)) h;
      })
