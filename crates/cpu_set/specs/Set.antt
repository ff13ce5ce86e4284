-- A set of CPUs in one word: bit k is CPU k. Assumes nothing.
use Rattle.std.specs.Prelude.{Bool, ℕ, ◌/◌, ◌%◌, ◌^◌, eqb}

abbrev pub contains : ℕ → ℕ → Bool
contains mask cpu = eqb (mask / 2 ^ cpu % 2) 1
