-- Elapsed nanoseconds in ticks, scaled and rounded down; what is left over is carried to the next turn. Assumes nothing.
use Rattle.std.specs.Prelude.{ℕ, ◌+◌, ◌-◌, ◌*◌, ◌/◌, ◌%◌, ◌^◌}
use Rattle.numbers.specs.Limits.{max_elapsed}
use Rattle.ticks.specs.declared.Converted.{Converted}

-- `NANOS_PER_TICK`, `SCALE` and `TICK_INTERVAL`
abbrev pub nanos_per_tick : ℕ
nanos_per_tick = 2250000

abbrev pub scale : ℕ
scale = 2 ^ 30

abbrev pub tick_interval : ℕ
tick_interval = 3

-- quotient and remainder of the elapsed time, scaled, and what the last conversion left
unfoldable pub ticks : (elapsed carried : ℕ) → ℕ
ticks elapsed carried = (elapsed * scale + carried) / nanos_per_tick

unfoldable pub remainder : (elapsed carried : ℕ) → ℕ
remainder elapsed carried = (elapsed * scale + carried) % nanos_per_tick

abbrev pub converted : (elapsed carried : ℕ) → Converted
converted elapsed carried = record { ticks = ticks elapsed carried; remainder = remainder elapsed carried }

abbrev pub max_remainder : ℕ
max_remainder = nanos_per_tick - 1

-- those of the longest time that a call may have
abbrev pub max_ticks : ℕ
max_ticks = (max_elapsed * scale + max_remainder) / nanos_per_tick
