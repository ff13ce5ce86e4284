use Rattle.wakeup_read.proofs.Items.{due_read}
use Rattle.stages.proofs.Lent.{timers_small}
use Rattle.machine.proofs.Steps.{sized}
use mathlib.Core.Path.{sym, subst}
use Prim.Native.Nat.{◌≤◌}
use native.Mathlib.Omega.{arith}
use borrow.Author.Rules.{rules}
use Rattle.machine.proofs.Places.{lent_word}
use Rattle.percpu.specs.Places.{timers_count}
use Rattle.wakeup_read.proofs.due.Goals as goal

pub slice_bounds-due-end : goal.slice_bounds-due-end
slice_bounds-due-end c = omega (arith, sized c.requires.image)

pub due-requires : goal.due-requires
due-requires c = (search rules, subst (λ y. y ≤ 64) (sym (lent_word c.args.m.now c.args.cpu.n c.args.cpu.k timers_count c.start-at.ensures (omega arith))) (timers_small c.requires.image _ c.args.cpu.present), search rules)

pub returns : goal.returns
returns c = due_read c.requires.image _ c.start-at.ensures c.args.cpu.present _ _ c.due.ensures
