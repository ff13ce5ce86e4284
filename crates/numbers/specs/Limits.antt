-- The limits that document 01 sets to the image's numbers. Assumes nothing.
use Rattle.std.specs.Prelude.{ℕ, ◌-◌, ◌^◌}

-- a number that has no range of its own, and a call's time, is below it
abbrev pub number_range : ℕ
number_range = 2 ^ 62

abbrev pub max_number : ℕ
max_number = number_range - 1

-- the longest time since a CPU's last decision that a call may have, in ns
abbrev pub max_elapsed : ℕ
max_elapsed = 2 ^ 52 - 1

abbrev pub max_id : ℕ
max_id = 2 ^ 32 - 1

-- a word is below it; half of it: two such numbers have a sum that is a word
abbrev pub word_range : ℕ
word_range = 2 ^ 64

abbrev pub max_word : ℕ
max_word = word_range - 1

abbrev pub half_range : ℕ
half_range = 2 ^ 63

abbrev pub nanos_per_millisecond : ℕ
nanos_per_millisecond = 1000000
