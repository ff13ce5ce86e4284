-- The CPUs of a set in rising order, and going through them. Assumes nothing.
use Rattle.std.specs.Prelude.{List, ℕ, ◌-◌, ◌^◌}
use Rattle.std.specs.Int.Bits.{bit_and, bit_or}
use Rattle.std.specs.Int.Count.{count_trailing_zeros}
use Rattle.columns.specs.Common.{keep, tabulate}
use Rattle.cpu_set.specs.Set.{contains}

-- `iter`: those of the CPUs 0 to 63 that the set contains
unfoldable pub members : ℕ → List ℕ
members mask = keep (contains mask) (tabulate 64 (λ (i : ℕ). i))

-- the first of them, by the zeros below the lowest bit, and the set without it
unfoldable pub next_cpu : ℕ → ℕ
next_cpu mask = count_trailing_zeros 64 mask

unfoldable pub rest_cpus : ℕ → ℕ
unfolding next_cpu
rest_cpus mask = mask - 2 ^ next_cpu mask

-- `atomic_set` and `atomic_clear`, on one word
abbrev pub with_cpu : ℕ → ℕ → ℕ
with_cpu mask cpu = bit_or mask (2 ^ cpu)

abbrev pub without_cpu : ℕ → ℕ → ℕ
without_cpu mask cpu = bit_and mask (18446744073709551615 - 2 ^ cpu)
