-- The same of a CPU's block, as the code reads its words. Assumes nothing.
use Rattle.std.specs.Prelude.{Bool, not, ℕ, ◌+◌, List, eqb, get_or}
use Rattle.columns.specs.Common.{every}
use Rattle.percpu.specs.Places.{queue_count, entry_context_ref_column}

unfoldable pub no_word_queued : (x : ℕ) → List ℕ → Bool
no_word_queued x b = every (λ (i : ℕ). not (eqb (get_or b (entry_context_ref_column + i) 0) x)) (get_or b queue_count 0)
