use Rattle.stages.proofs.Lent.{queue_small, entry_read}
use Rattle.machine.proofs.Steps.{sized}
use native.Mathlib.Omega.{arith}
use borrow.Author.Rules.{rules}
use Rattle.stages.proofs.entry.Goals as goal

pub slice_bounds-entry-end : goal.slice_bounds-entry-end
slice_bounds-entry-end c = omega (arith, sized c.requires.image)

pub entry-requires : goal.entry-requires
entry-requires c = (search rules, omega (arith, queue_small c.requires.image _ c.args.cpu.present))

pub returns : goal.returns
returns c = entry_read c.requires.image _ _ c.start-at.ensures c.args.cpu.present c.requires.bounded _ c.entry.ensures
