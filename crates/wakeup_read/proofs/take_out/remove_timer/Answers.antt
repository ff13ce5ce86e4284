use mathlib.Core.Path.{sym, subst}
use Prim.Native.Nat.{◌<◌, ◌≤◌}
use Rattle.percpu.specs.Places.{timers_count}
use Rattle.machine.proofs.Places.{lent_word}
use Rattle.machine.proofs.Steps.{sized}
use Rattle.stages.proofs.Lent.{timers_small}
use Rattle.wakeup_read.proofs.Draining.{removal_staged}
use native.Mathlib.Omega.{arith}
use borrow.Author.Rules.{rules}
use Rattle.wakeup_read.proofs.take_out.remove_timer.Goals as goal

pub slice_bounds-remove-end : goal.slice_bounds-remove-end
slice_bounds-remove-end c = omega (arith, sized c.requires.image)

pub remove-requires : goal.remove-requires
remove-requires c = (search rules, subst (λ y. y ≤ 64) (sym (lent_word c.args.m.now c.args.cpu.n c.args.cpu.k timers_count c.start-at.ensures (omega arith))) (timers_small c.requires.image _ c.args.cpu.present), subst (λ y. c.args.i < y) (sym (lent_word c.args.m.now c.args.cpu.n c.args.cpu.k timers_count c.start-at.ensures (omega arith))) c.requires.bounded)

pub returns : goal.returns
returns c = removal_staged c.requires.image _ c.start-at.ensures c.args.cpu.present _ _ c.remove.ensures.b_after
