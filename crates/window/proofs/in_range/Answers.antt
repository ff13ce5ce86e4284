use Rattle.window.proofs.Checked.{context_out, time_out, both_in, stops}
use Rattle.window.specs.Window.{record_at}
use Rattle.columns.proofs.Tests.{every_none, every_next}
use mathlib.Core.Bool.{true}
use Rattle.window.proofs.in_range.Goals as goal
use Rattle.window.proofs.in_range.Goals.{then-n-w-via-then-n-w, then-n-w-via-else-n-w+then-w-i-gt-MAX_ELAPSED}

pub loop-i-init : goal.loop-i-init
loop-i-init c = every_none _

pub returns-then-n-w : goal.returns-then-n-w
returns-then-n-w c =
    stops c.args.n c.args.w.now _ c.loop-i.i c.loop-i-test.true
    (elim c.then-n-w.branch [
      | then-n-w-via-then-n-w w ↦ context_out c.args.n (record_at c.args.w.now c.loop-i.i) w.if-n-w.true
      | then-n-w-via-else-n-w+then-w-i-gt-MAX_ELAPSED w ↦ time_out c.args.n (record_at c.args.w.now c.loop-i.i) w.if-w-i-gt-MAX_ELAPSED.true
    ])

pub loop-i-preserved : goal.loop-i-preserved
loop-i-preserved c = every_next _ _ c.loop-i.invariant (both_in c.args.n (record_at c.args.w.now c.loop-i.i) c.if-n-w.false c.if-w-i-gt-MAX_ELAPSED.false)
