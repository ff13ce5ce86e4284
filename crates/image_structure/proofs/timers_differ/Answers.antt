use Rattle.image_ranges.proofs.Named.{timer_count, timer_name}
use Rattle.image_structure.specs.Structure.{timers_differ}
use Rattle.image_structure.proofs.Marks.{first_is, marked_more, marked_none}
use Rattle.columns.proofs.Tests.{every_none, every_next, every_no, every_end}
use Rattle.percpu.specs.Layout.{timer_at}
use lib.ListN.{length-set}
use mathlib.Core.Bool.{not}
use mathlib.Core.Path.{refl, sym, ap, ◌∙◌}
use native.Mathlib.Omega.{arith}
use Rattle.image_structure.proofs.timers_differ.Goals as goal

pub loop-i-init : goal.loop-i-init
loop-i-init c = (c.index-k.ensures, omega (arith, c.index-k.ensures, timer_count _ _ c.requires.le_n.0 c.requires.b_value), refl, marked_none _, every_none _)

pub bounds-seen-x : goal.bounds-seen-x
bounds-seen-x c = omega (arith, c.index-x.ensures, timer_name _ _ c.requires.le_n.0 c.requires.b_value c.loop-i.i (omega arith))

pub returns-then-seen-x : goal.returns-then-seen-x
unfolding timers_differ timer_at
returns-then-seen-x c = sym (every_no _ _ c.loop-i.i (omega (arith, c.loop-i.invariant.0)) (first_is _ c.loop-i.seen _ _ c.index-x.ensures (omega (arith, c.index-x.ensures, timer_name _ _ c.requires.le_n.0 c.requires.b_value c.loop-i.i (omega arith))) c.loop-i.invariant.3 ∙ ap not c.if-seen-x.true))

pub bounds-seen-x-in-loop-i : goal.bounds-seen-x-in-loop-i
bounds-seen-x-in-loop-i c = omega (arith, c.index-x.ensures, timer_name _ _ c.requires.le_n.0 c.requires.b_value c.loop-i.i (omega arith))

pub loop-i-preserved : goal.loop-i-preserved
unfolding timer_at
loop-i-preserved c = let h = timer_name _ _ c.requires.le_n.0 c.requires.b_value c.loop-i.i (omega arith) in (c.loop-i.invariant.0, omega arith, rw length-set c.loop-i.invariant.2, marked_more c.args.b.now c.loop-i.seen c.loop-i.i _ c.index-x.ensures c.loop-i.invariant.2 (omega (arith, c.index-x.ensures, h)) c.loop-i.invariant.3, every_next _ _ c.loop-i.invariant.4 (first_is _ c.loop-i.seen _ _ c.index-x.ensures (omega (arith, c.index-x.ensures, h)) c.loop-i.invariant.3 ∙ ap not c.if-seen-x.false))

pub returns : goal.returns
unfolding timers_differ
returns c = every_end _ _ _ (omega (arith, c.loop-i.invariant.0)) (omega (arith, c.loop-i.invariant.0)) c.loop-i.invariant.4
