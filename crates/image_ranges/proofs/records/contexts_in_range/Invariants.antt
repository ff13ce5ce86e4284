use Rattle.image_ranges.specs.Ranges.{context_in_range}
use Rattle.machine.specs.Encode.{context_place}
use Rattle.columns.specs.Blocks.{part}
use Rattle.columns.specs.Common.{every}
use lib.ListN.{length}
use Prim.Native.Nat.{ℕ, ◌≤◌}
use mathlib.Core.Bool.{true}
use mathlib.Core.Path.{◌≡◌}
use Rattle.context.specs.Words.{record_size}
use Rattle.image_ranges.proofs.records.contexts_in_range.Given as goal

abbrev pub invariant-loop-x : goal.invariant-loop-x
invariant-loop-x l = (context_place l.n ≤ length l.m) × (l.n ≤ 64) × (every (λ (y : ℕ). context_in_range l.c (part l.m (context_place y) record_size)) l.x ≡ true)
