use Rattle.table.specs.Keys.{key_at}
use Rattle.entries.specs.Order.{before}
use Rattle.columns.specs.Common.{every}
use Prim.Native.Nat.{ℕ, ◌+◌, ◌-◌, ◌≤◌}
use mathlib.Core.Bool.{true}
use mathlib.Core.Path.{◌≡◌}
use Rattle.image_structure.proofs.rises.Given as goal

abbrev pub invariant-loop-i : goal.invariant-loop-i
invariant-loop-i l = (1 ≤ l.i) × (l.i - 1 ≤ l.k - 1) × (l.last ≡ key_at l.b l.keys.vd l.keys.rem_slice l.keys.ctxt_id (l.i - 1)) × (every (λ (j : ℕ). before (key_at l.b l.keys.vd l.keys.rem_slice l.keys.ctxt_id j) (key_at l.b l.keys.vd l.keys.rem_slice l.keys.ctxt_id (j + 1))) (l.i - 1) ≡ true)
