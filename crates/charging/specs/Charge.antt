-- What the holder pays for its turn. Assumes nothing.
use Rattle.std.specs.Prelude.{Bool, false, ℕ, ◌+◌, ◌-◌, ◌*◌, ◌/◌, ◌<◌, ◌≤◌, max, ltb, eqb, if◌then◌else◌}
use Rattle.context.specs.declared.Context.{Context}
use Rattle.context.specs.With.{with_vtime, with_vd, with_rem_slice, with_is_active}
use Rattle.ticks.specs.declared.Spent.{Spent}
use Rattle.ticks.specs.Ticks.{tick_interval, nanos_per_tick, max_ticks}
use Rattle.weights.specs.Weights.{weight, whole_slice, full_slice}
use Rattle.numbers.specs.Limits.{half_range}

-- under half of a switch's interval is a yield
abbrev pub yield_bound : ℕ
yield_bound = tick_interval * nanos_per_tick / 2

abbrev pub is_yield : ℕ → Bool
is_yield elapsed = ltb elapsed yield_bound

-- a slice used up is filled, and the deadline is a whole slice after the vtime
abbrev pub renewed : Context → Context
renewed c =
    if eqb c.rem_slice 0 then with_rem_slice full_slice (with_vd (c.vtime + whole_slice c.prio) c) else c

-- a runnable holder after a turn, where virtual time is v: a yield goes by nanoseconds, all else by ticks
unfoldable pub charged : (v : ℕ) (spent : Spent) → Context → Context
charged v spent c =
    let left = c.rem_slice - spent.ticks in
    let vtime = max (c.vtime + spent.ticks / weight c.prio) v in
    renewed
    (if is_yield spent.elapsed then with_rem_slice 0 (with_vtime (vtime + left / weight c.prio) c)
    else with_rem_slice left (with_vtime vtime c))

-- a holder that is not runnable any more
abbrev pub stopped : Context → Context
stopped c = with_is_active false (with_rem_slice 0 c)

-- what a charge asks of its record and times; image words and a decision's values are within it
pub record Chargeable (v : ℕ) (spent : Spent) (c : Context) : Type 0 where
  pub prio : c.prio < 40
  pub vtime : c.vtime < half_range
  pub rem_slice : c.rem_slice ≤ full_slice
  pub virtual : v < half_range
  pub ticks : spent.ticks ≤ max_ticks
