use Rattle.image_ranges.proofs.Named.{queue_count, timer_count}
use native.Mathlib.Omega.{arith}
use Rattle.image_structure.proofs.block_structure.Goals as goal

pub rises-requires : goal.rises-requires
rises-requires c = ((omega arith, omega arith, omega arith), omega (arith, queue_count _ _ c.requires.n_in_bounds.1 c.requires.b_value, c.index.ensures))

pub rises-requires-then-rises : goal.rises-requires-then-rises
rises-requires-then-rises c = ((omega arith, omega arith, omega arith), omega (arith, timer_count _ _ c.requires.n_in_bounds.1 c.requires.b_value, c.index-then-rises.ensures))
