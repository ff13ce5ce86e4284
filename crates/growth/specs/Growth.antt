-- Bounds of what grows in a machine, and what a call adds to them. Assumes nothing.
use Rattle.std.specs.Prelude.{Bool, ◌&&◌, ◌≡◌, List, ℕ, ◌+◌, ◌-◌, ◌*◌, ◌%◌, ◌^◌, ◌<◌, ◌≤◌, ltb, leb, eqb, if◌then◌else◌}
use Rattle.percpu.specs.declared.PercpuBlock.{PercpuBlock}
use Rattle.machine.specs.Machine.{Machine, cpu_at}
use Rattle.machine.specs.Encode.{decode}
use Rattle.image.specs.Refusal.{size_c, size_n, image_refusal}
use Rattle.model.specs.Steal.{idle_steal_interval, steal_interval}
use Rattle.stages.specs.Stage.{Below}
use Rattle.stages.specs.Bounds.{slice_bound}
use Rattle.numbers.specs.Limits.{max_number, max_elapsed}
use Rattle.growth.specs.declared.Bounds.{Bounds}

-- no number that grows is over its bound; of the published weights, which the stages do not add to, as of the weights
pub record Within (c n : ℕ) (b : Bounds) (M : Machine) : Type 0 where
  pub below : Below c n b.times b.virtual_times M
  pub published : (k : ℕ) → k < c → (cpu_at M k).block.published_weight ≤ b.virtual_times

-- bounds that are no smaller
pub record AtMost (b d : Bounds) : Type 0 where
  pub times : b.times ≤ d.times
  pub virtual_times : b.virtual_times ≤ d.virtual_times

-- the ticks of so many nanoseconds, with what was carried, are at most this
abbrev pub most_ticks : ℕ → ℕ
most_ticks elapsed = 478 * elapsed + 1

-- what wake-ups and a charge add to virtual times and weights besides the ticks, or more
abbrev pub slices : ℕ
slices = 2 ^ 35

-- virtual times at most so far ahead, of which one may have been stolen with its lag
abbrev pub after_theft : (steals : Bool) → ℕ → ℕ
after_theft steals charged = if steals then 2 * charged + slice_bound else charged

-- of an image in its ranges
abbrev pub max_charged : ℕ
max_charged = max_number + slices + most_ticks max_elapsed

-- after an operation of 1 to 3: a tick and a switch are counted, and the time is stored or added three times at most; the ticks are charged, somebody may be
-- stolen, and V gains by the ticks
unfoldable pub after_turn : Bounds → (time elapsed : ℕ) (steals : Bool) → Bounds
after_turn b time elapsed steals =
    record {
      times = b.times + 3 * time + 2;
      virtual_times = after_theft steals (b.virtual_times + slices + most_ticks elapsed) + most_ticks elapsed;
    }

-- what the check asks of the numbers
pub record InRange (b : Bounds) : Type 0 where
  pub times : b.times ≤ max_number
  pub virtual_times : b.virtual_times ≤ max_number

unfoldable pub is_in_range : Bounds → Bool
is_in_range b = leb b.times max_number && leb b.virtual_times max_number

-- the time of a turn that is not refused
abbrev pub capped : ℕ → ℕ
capped elapsed = if ltb max_elapsed elapsed then max_elapsed else elapsed

-- a decision on this CPU of c may steal: every 2nd value of the counter while idle is in charge, else every 16th
unfoldable pub may_steal : (c : ℕ) → PercpuBlock → Bool
may_steal c p = ltb 1 c && eqb (p.steal_counter % (if eqb p.sched_ctxt p.idle_ctxt then idle_steal_interval else steal_interval)) 0

-- after an operation of 1 to 3 on the CPU with the block p
abbrev pub turn_bounds : (c : ℕ) → PercpuBlock → (time : ℕ) → Bounds → Bounds
turn_bounds c p time b = after_turn b time (capped (time - p.schedule_time)) (may_steal c p)

-- after any operation: 4 to 7 add nothing
unfoldable pub call_bounds : (c : ℕ) → Machine → (operation cpu time : ℕ) → Bounds → Bounds
call_bounds c M operation cpu time b =
    if leb c cpu then b else
    if ltb 3 operation then b else turn_bounds c (cpu_at M cpu).block time b

-- the image passes the check at every time that is in range, and no number of its machine is over its bound
pub record Known (c n : ℕ) (b : Bounds) (m : List ℕ) : Type 0 where
  pub passes : image_refusal 0 m ≡ 0
  pub cpus : c ≡ size_c m
  pub contexts : n ≡ size_n m
  pub in_range : InRange b
  pub within : Within c n b (decode m)
