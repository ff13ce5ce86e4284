use Rattle.stages.proofs.Lent.{timers_small, staged_newest}
use Prim.Native.Nat.{◌≤◌}
use mathlib.Core.Path.{sym, subst}
use Rattle.machine.proofs.Steps.{sized}
use native.Mathlib.Omega.{arith}
use borrow.Author.Rules.{rules}
use Rattle.machine.proofs.Places.{lent_word}
use Rattle.stages.proofs.insert_newest_timer.Goals as goal

pub slice_bounds-insert_newest-end : goal.slice_bounds-insert_newest-end
slice_bounds-insert_newest-end c = omega (arith, sized c.requires.image)

pub insert_newest-requires : goal.insert_newest-requires
insert_newest-requires c = (search rules, subst (λ y. y ≤ 64) (sym (lent_word c.args.m.now c.args.cpu.n c.args.cpu.k 22 c.start-at.ensures (omega arith))) (timers_small c.requires.image _ c.args.cpu.present))

pub returns : goal.returns
returns c = staged_newest c.requires.image _ c.start-at.ensures c.args.cpu.present _ _ _ c.requires.bounded c.insert_newest.ensures
