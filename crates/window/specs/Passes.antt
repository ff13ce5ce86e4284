-- What a window that is not refused is. Assumes nothing.
use Rattle.std.specs.Prelude.{◌≡◌, true, ℕ, ◌≤◌, ◌<◌, List, length}
use Rattle.window.specs.Window.{capacity, window_size, count_of, record_at, is_in_range}

pub record Passes (n : ℕ) (w : List ℕ) : Type 0 where
  pub size : length w ≡ window_size
  pub count : count_of w ≤ capacity
  pub in_range : (i : ℕ) → i < count_of w → is_in_range n (record_at w i) ≡ true
