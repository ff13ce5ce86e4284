-- The weights of a queue as the words of its block have them. Assumes nothing.
use Rattle.std.specs.Prelude.{ℕ, zero, suc, ◌+◌, ◌<◌, ◌≤◌, List, get_or}
use Rattle.weights.specs.Weights.{max_weight}
use Rattle.percpu.specs.Places.{queue_count, entry_weight_column}

-- the first of them added up
unfoldable pub weight_words : List ℕ → (count : ℕ) → ℕ
weight_words b zero = 0
weight_words b (suc i) = weight_words b i + get_or b (entry_weight_column + i) 0

-- the queue of the block b is within its array, and each weight within its range
pub record Light (b : List ℕ) : Type 0 where
  pub queue : get_or b queue_count 0 ≤ 64
  pub weight : (i : ℕ) → i < get_or b queue_count 0 → get_or b (entry_weight_column + i) 0 ≤ max_weight
