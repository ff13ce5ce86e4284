use Rattle.window.specs.Window.{record_at, is_in_range}
use Rattle.columns.specs.Common.{every}
use mathlib.Core.Bool.{true}
use mathlib.Core.Path.{◌≡◌}
use Prim.Native.Nat.{ℕ}
use Rattle.window.proofs.in_range.Given as goal

abbrev pub invariant-loop-i : goal.invariant-loop-i
invariant-loop-i l = every (λ (j : ℕ). is_in_range l.n (record_at l.w j)) l.i ≡ true
