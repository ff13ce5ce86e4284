use Rattle.stages.proofs.Lent.{queue_small, staged_entry}
use Prim.Native.Nat.{◌≤◌}
use mathlib.Core.Path.{sym, subst}
use Rattle.machine.proofs.Steps.{sized}
use native.Mathlib.Omega.{arith}
use borrow.Author.Rules.{rules}
use Rattle.machine.proofs.Places.{lent_word}
use Rattle.stages.proofs.insert_entry.Goals as goal

pub slice_bounds-insert_entry-end : goal.slice_bounds-insert_entry-end
slice_bounds-insert_entry-end c = omega (arith, sized c.requires.image)

pub insert_entry-requires : goal.insert_entry-requires
insert_entry-requires c = (search rules, subst (λ y. y ≤ 64) (sym (lent_word c.args.m.now c.args.cpu.n c.args.cpu.k 21 c.start-at.ensures (omega arith))) (queue_small c.requires.image _ c.args.cpu.present))

pub returns : goal.returns
returns c = staged_entry c.requires.image _ c.start-at.ensures c.args.cpu.present _ _ _ c.requires.entry_fits c.insert_entry.ensures
