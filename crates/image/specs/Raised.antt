-- The words that a call can raise over their range, by their places. Assumes nothing.
use Rattle.std.specs.Prelude.{List, [], ◌∷◌, ℕ, ◌+◌, ◌*◌, ◌<◌, ◌≤◌, get_or}
use Rattle.columns.specs.Common.{All}
use Rattle.machine.specs.Encode.{context_place, cpu_place}
use Rattle.image.specs.Refusal.{size_c, size_n}

-- of a record: active time, scheduled time, vtime, vd, key vd
abbrev pub context_raised : List ℕ
context_raised = 8 ∷ 9 ∷ 17 ∷ 18 ∷ 22 ∷ []

-- of a block: pit ticks, published weight; user, kernel and idle milliseconds; context switches, syscall switches; V, total weight
abbrev pub block_raised : List ℕ
block_raised = 5 ∷ 10 ∷ 13 ∷ 14 ∷ 15 ∷ 16 ∷ 17 ∷ 19 ∷ 20 ∷ []

-- of a block's arrays: keys' vd, vtimes
abbrev pub array_raised : List ℕ
array_raised = 0 ∷ 3 ∷ []

-- none of them is over top
pub record RaisedAtMost (top : ℕ) (m : List ℕ) : Type 0 where
  pub context : (x : ℕ) → x < size_n m → All (λ (i : ℕ). get_or m (context_place x + i) 0 ≤ top) context_raised
  pub block : (k : ℕ) → k < size_c m → All (λ (i : ℕ). get_or m (cpu_place (size_n m) k + i) 0 ≤ top) block_raised
  pub array : (k : ℕ) → k < size_c m → All (λ (j : ℕ). (i : ℕ) → i < 64 → get_or m (cpu_place (size_n m) k + (25 + 64 * j + i)) 0 ≤ top) array_raised
