use Rattle.wakeup_lists.proofs.Drained.{Appended}
use lib.ListN.{get_or}
use mathlib.Core.Path.{◌≡◌}
use Prim.Native.Nat.{◌+◌, ◌≤◌}
use Rattle.wakeup_lists.proofs.append_ipi.Given as goal

abbrev pub invariant-loop-i : goal.invariant-loop-i
invariant-loop-i l = (l.k ≡ get_or l.initial.b 24 0) × (get_or l.b 23 0 ≡ get_or l.initial.b 23 0 + l.i) × (get_or l.initial.b 23 0 + l.k ≤ 64) × Appended l.initial.b l.b l.i
