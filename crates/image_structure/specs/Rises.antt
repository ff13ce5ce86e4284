-- What the code tests of keys and timers alike: the keys in three columns of a block rise. Assumes nothing.
use Rattle.std.specs.Prelude.{Bool, List, ℕ, ◌+◌, ◌-◌}
use Rattle.columns.specs.Common.{every}
use Rattle.entries.specs.Order.{before}
use Rattle.table.specs.Keys.{key_at}

unfoldable pub rises : List ℕ → (s t u k : ℕ) → Bool
rises b s t u k = every (λ (i : ℕ). before (key_at b s t u i) (key_at b s t u (i + 1))) (k - 1)
