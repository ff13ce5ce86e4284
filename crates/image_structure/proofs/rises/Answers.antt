use Rattle.image_structure.proofs.Structured.{neighbours, one_more}
use Rattle.image_structure.specs.Rises.{rises}
use Rattle.table.specs.Keys.{key_at}
use Rattle.entries.specs.Order.{before}
use Rattle.columns.proofs.Tests.{every_none, every_no, every_end}
use Prim.Native.Nat.{◌+◌, ◌-◌}
use mathlib.Core.Path.{◌≡◌, sym, ap, ◌∙◌}
use native.Mathlib.Omega.{arith}
use Rattle.image_structure.proofs.rises.Goals as goal

pub loop-i-init : goal.loop-i-init
loop-i-init c = (omega arith, omega arith, c.key-last.ensures, every_none _)

pub returns-then-not-before : goal.returns-then-not-before
unfolding rises
returns-then-not-before c =
    let z : c.loop-i.i ≡ c.loop-i.i - 1 + 1 = omega (arith, c.loop-i.invariant.0)
    in sym (every_no _ _ (c.loop-i.i - 1) (omega (arith, c.loop-i.invariant.0)) (neighbours before (key_at c.args.b.now c.args.keys.vd c.args.keys.rem_slice c.args.keys.ctxt_id) _ _ _ c.loop-i.invariant.2 (c.key-next.ensures ∙ ap (key_at c.args.b.now c.args.keys.vd c.args.keys.rem_slice c.args.keys.ctxt_id) z) c.before-in-loop-i.ensures c.if-not-before.true))

pub loop-i-preserved : goal.loop-i-preserved
loop-i-preserved c =
    let z : c.loop-i.i ≡ c.loop-i.i - 1 + 1 = omega (arith, c.loop-i.invariant.0)
    in let y : c.loop-i.i ≡ c.loop-i.i + 1 - 1 = omega arith
    in (omega arith, omega arith, c.key-next.ensures ∙ ap (key_at c.args.b.now c.args.keys.vd c.args.keys.rem_slice c.args.keys.ctxt_id) y, one_more _ _ c.loop-i.invariant.0 c.loop-i.invariant.3 (neighbours before (key_at c.args.b.now c.args.keys.vd c.args.keys.rem_slice c.args.keys.ctxt_id) _ _ _ c.loop-i.invariant.2 (c.key-next.ensures ∙ ap (key_at c.args.b.now c.args.keys.vd c.args.keys.rem_slice c.args.keys.ctxt_id) z) c.before-in-loop-i.ensures c.if-not-before.false))

pub returns : goal.returns
unfolding rises
returns c = every_end _ _ _ (omega arith) c.loop-i.invariant.1 c.loop-i.invariant.3
