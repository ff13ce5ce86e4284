use Rattle.stages.proofs.Lent.{timers_small, staged_timer}
use Prim.Native.Nat.{◌≤◌}
use mathlib.Core.Path.{sym, subst}
use Rattle.machine.proofs.Steps.{sized}
use native.Mathlib.Omega.{arith}
use borrow.Author.Rules.{rules}
use Rattle.machine.proofs.Places.{lent_word}
use Rattle.stages.proofs.insert_timer.Goals as goal

pub slice_bounds-insert-end : goal.slice_bounds-insert-end
slice_bounds-insert-end c = omega (arith, sized c.requires.image)

pub insert-requires : goal.insert-requires
insert-requires c = (search rules, subst (λ y. y ≤ 64) (sym (lent_word c.args.m.now c.args.cpu.n c.args.cpu.k 22 c.start-at.ensures (omega arith))) (timers_small c.requires.image _ c.args.cpu.present))

pub returns : goal.returns
returns c = staged_timer c.requires.image _ c.start-at.ensures c.args.cpu.present _ _ _ c.requires.bounded c.insert.ensures
