use Rattle.image_ranges.specs.Ranges.{block_in_range}
use Rattle.machine.specs.Encode.{cpu_place}
use Rattle.columns.specs.Blocks.{part}
use Rattle.columns.specs.Common.{every}
use Prim.Native.Nat.{ℕ}
use mathlib.Core.Bool.{true}
use mathlib.Core.Path.{◌≡◌}
use Rattle.percpu.specs.Places.{block_size}
use Rattle.image_ranges.proofs.ranges.blocks_in_range.Given as goal

abbrev pub invariant-loop-k : goal.invariant-loop-k
invariant-loop-k l = every (λ (j : ℕ). block_in_range l.n (part l.m (cpu_place l.n j) block_size)) l.k ≡ true
