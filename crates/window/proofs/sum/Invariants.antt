use Rattle.window.specs.Shares.{sum_for}
use Rattle.window.specs.Window.{record_at}
use Rattle.numbers.specs.Limits.{max_elapsed}
use Rattle.columns.specs.Common.{tabulate}
use lib.ListN.{get_or}
use mathlib.Core.Path.{◌≡◌}
use Prim.Native.Nat.{◌*◌, ◌≤◌}
use Rattle.window.proofs.sum.Given as goal

abbrev pub invariant-loop-i : goal.invariant-loop-i
invariant-loop-i l = (l.count ≡ get_or l.w 0 0) × (l.total ≡ sum_for l.whose (tabulate l.i (record_at l.w))) × (l.total ≤ max_elapsed * l.i)
