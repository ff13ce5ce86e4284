use Rattle.context_ops.proofs.Operated.{counts_small, drain_full, drained}
use Rattle.machine.proofs.Steps.{sized}
use mathlib.Core.Path.{refl}
use native.Mathlib.Omega.{arith}
use borrow.Author.Rules.{rules}
use Rattle.machine.proofs.Places.{lent_word}
use Rattle.context_ops.proofs.drain.Goals as goal

pub bounds-m-at : goal.bounds-m-at
bounds-m-at c = omega (arith, sized c.requires.image)

pub bounds-m-at-2 : goal.bounds-m-at-2
bounds-m-at-2 c = omega (arith, sized c.requires.image)

pub overflow_add-local-2 : goal.overflow_add-local-2
overflow_add-local-2 c = omega (arith, counts_small c.requires.image _ c.start-at.ensures c.args.cpu.present)

pub returns-then-local-ipi-gt64 : goal.returns-then-local-ipi-gt64
returns-then-local-ipi-gt64 c = λ M e o. drain_full _ _ c.args.cpu.present M e o c.start-at.ensures _ _ refl refl c.refused.ensures c.if-local-ipi-gt64.true

pub slice_bounds-drain_ipi-end : goal.slice_bounds-drain_ipi-end
slice_bounds-drain_ipi-end c = omega (arith, sized c.requires.image)

pub drain_ipi-requires : goal.drain_ipi-requires
drain_ipi-requires c = (search rules, rw (lent_word c.args.m.now c.args.cpu.n c.args.cpu.k 23 c.start-at.ensures (omega arith), lent_word c.args.m.now c.args.cpu.n c.args.cpu.k 24 c.start-at.ensures (omega arith), ← c.start-at.ensures) (omega arith))

pub returns : goal.returns
returns c = λ M e o. drained _ _ c.args.cpu.present M e o c.start-at.ensures _ _ refl refl (omega arith) c.drain_ipi.ensures
