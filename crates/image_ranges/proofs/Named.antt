-- Names and counts of a block whose words are in their ranges. Assumes nothing.
use mathlib.Core.Path.{◌≡◌}
use mathlib.Core.Bool.{true}
use mathlib.Core.List.{List}
use Prim.Native.Nat.{ℕ, ◌+◌, ◌<◌, ◌≤◌}
use native.Mathlib.Omega.{arith}
use lib.ListN.{get_or}
use Rattle.percpu.specs.Layout.{counter}
use Rattle.percpu.specs.Places.{entry_context_ref_column, timer_context_ref_column}
use Rattle.image_ranges.specs.Ranges.{block_in_range, array_most_to, block_most_to}
use Rattle.image_ranges.proofs.InRange.{in_range}

-- names in a block are below n
module _ (n : ℕ) (b : List ℕ) (p : 1 ≤ n) (e : block_in_range n b ≡ true) where
  pub current_name : get_or b 1 0 < n
  unfolding block_most_to
  current_name = omega (arith, (in_range n b e).scalar 1 (omega arith))

  pub sched_name : get_or b 2 0 < n
  unfolding block_most_to
  sched_name = omega (arith, (in_range n b e).scalar 2 (omega arith))

  pub idle_name : get_or b 3 0 < n
  unfolding block_most_to
  idle_name = omega (arith, (in_range n b e).scalar 3 (omega arith))

  pub queue_count : get_or b 21 0 ≤ 64
  unfolding block_most_to
  queue_count = (in_range n b e).scalar 21 (omega arith)

  pub timer_count : get_or b 22 0 ≤ 64
  unfolding block_most_to
  timer_count = (in_range n b e).scalar 22 (omega arith)

  pub entry_name : (i : ℕ) → i < get_or b 21 0 → get_or b (entry_context_ref_column + i) 0 < n
  unfolding counter array_most_to
  entry_name i h = omega (arith, (in_range n b e).high 5 i (omega arith) h)

  pub timer_name : (i : ℕ) → i < get_or b 22 0 → get_or b (timer_context_ref_column + i) 0 < n
  unfolding counter array_most_to
  timer_name i h = omega (arith, (in_range n b e).high 7 i (omega arith) h)
