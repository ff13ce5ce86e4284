use mathlib.Core.Path.{◌≡◌}
use mathlib.Core.Bool.{true, not, ◌&&◌}
use Prim.Native.Nat.{ℕ, ◌-◌, ◌≤◌}
use Rattle.columns.specs.Common.{every}
use Rattle.apart.specs.Words.{is_named_in}
use Rattle.apart.proofs.blocks_apart.Given as goal

abbrev pub invariant-loop-x : goal.invariant-loop-x
invariant-loop-x l = every (λ (z : ℕ). not (is_named_in l.one z && is_named_in l.other z)) l.x ≡ true
