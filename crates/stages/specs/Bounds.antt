-- What bounds the numbers that grow in a decision, by the stage that they come out of: t of times and counters, b of virtual times and
-- weights (T and B of docs/PROOFS.md). Assumes nothing.
use Rattle.std.specs.Prelude.{ℕ, ◌+◌, ◌*◌, ◌^◌}
use Rattle.numbers.specs.Limits.{number_range, max_number}
use Rattle.weights.specs.Weights.{max_weight}

-- a switch, or a tick, was counted
abbrev pub t_counted : ℕ
t_counted = number_range

-- the time of one turn was added, in milliseconds
abbrev pub t_timed : ℕ
t_timed = t_counted + 2 ^ 33

-- the time since the last switch was added
abbrev pub t_handed : ℕ
t_handed = t_timed + number_range

-- a whole slice of any priority is below it
abbrev pub slice_bound : ℕ
slice_bound = 2 ^ 30

-- 128 wake-ups at most add a weight each
abbrev pub b_waking : ℕ
b_waking = max_number + 128 * max_weight

-- a deadline is a virtual time and a whole slice
abbrev pub b_woken : ℕ
b_woken = max_number + slice_bound

-- ticks of a turn over a weight
abbrev pub b_charged : ℕ
b_charged = b_woken + 2 ^ 58

-- a stolen context's lag is carried over
abbrev pub b_moving : ℕ
b_moving = 2 * b_charged

abbrev pub b_stolen : ℕ
b_stolen = b_moving + slice_bound

-- ticks of a turn are at most this
abbrev pub max_gain : ℕ
max_gain = 2 ^ 61

abbrev pub b_advanced : ℕ
b_advanced = b_stolen + max_gain
