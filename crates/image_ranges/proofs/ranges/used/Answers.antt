use Rattle.image_ranges.proofs.Checked.{used_part}
use Rattle.columns.proofs.Tests.{every_none, every_next, every_no, every_end, and_no}
use borrow.Author.Tests.{le-leb, lt-leb}
use lib.ListN.{get_or, length, take}
use lib.Seq.{length-take-le}
use lib.Dec.{leb}
use Prim.Native.Nat.{ℕ}
use mathlib.Core.Bool.{◌&&◌}
use mathlib.Core.Path.{◌≡◌, sym, ◌∙◌}
use native.Mathlib.Omega.{arith}
use Rattle.image_ranges.proofs.ranges.used.Goals as goal
use Rattle.image_ranges.proofs.ranges.used.Goals.{then-x-low-via-then-x-low, then-x-low-via-else-x-low+then-high-x}

pub loop-x-init : goal.loop-x-init
loop-x-init c = every_none _

pub returns-then-x-low : goal.returns-then-x-low
returns-then-x-low c =
    sym
    (every_no (λ (j : ℕ). leb c.args.low (get_or (take c.args.k c.args.a.now) j 0) && leb (get_or (take c.args.k c.args.a.now) j 0) c.args.high) c.args.k c.loop-x.x-index (omega (arith, length-take-le c.args.k c.args.a.now (omega arith)))
    (elim c.then-x-low.branch [
      | then-x-low-via-then-x-low w ↦ rw (lt-leb _ _ w.if-x-low.true)
      | then-x-low-via-else-x-low+then-high-x w ↦ and_no (leb c.args.low (get_or (take c.args.k c.args.a.now) c.loop-x.x-index 0)) _ (lt-leb _ _ w.if-high-x.true)
    ])) ∙ used_part c.args.a.now c.args.k c.args.low c.args.high

pub loop-x-preserved : goal.loop-x-preserved
loop-x-preserved c = every_next _ _ c.loop-x.invariant (rw (le-leb _ _ c.if-x-low.false, le-leb _ _ c.if-high-x.false))

pub returns : goal.returns
returns c = let taken : length (take c.args.k c.args.a.now) ≡ c.args.k = length-take-le _ _ (omega arith) in every_end _ c.args.k _ (omega (arith, taken)) (omega (arith, taken)) c.loop-x.invariant ∙ used_part c.args.a.now c.args.k c.args.low c.args.high
