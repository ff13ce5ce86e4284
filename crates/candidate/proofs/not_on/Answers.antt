use Rattle.candidate.proofs.Apart.{short_queue, absent_on, in_charge_on, queued_on}
use Rattle.machine.proofs.Steps.{sized}
use native.Mathlib.Omega.{arith}
use borrow.Author.Rules.{rules}
use borrow.Author.Tests.{eq-eqb}
use Rattle.candidate.proofs.not_on.Goals as goal

-- src/lib.rt:41:8
pub bounds-m-at : goal.bounds-m-at
bounds-m-at c = omega (arith, sized c.requires.image)

pub bounds-m-at-else-m-at-eq0 : goal.bounds-m-at-else-m-at-eq0
bounds-m-at-else-m-at-eq0 c = omega (arith, sized c.requires.image)

pub slice_bounds-not_queued-end : goal.slice_bounds-not_queued-end
slice_bounds-not_queued-end c = omega (arith, sized c.requires.image)

pub not_queued-requires : goal.not_queued-requires
not_queued-requires c = (search rules, short_queue _ c.start-at.ensures c.args.cpu.present c.requires.image)

pub returns-then-m-at-eq0 : goal.returns-then-m-at-eq0
returns-then-m-at-eq0 c = λ M e o. rw c.if-m-at-eq0.true (absent_on _ c.start-at.ensures c.args.cpu.present _ M e o c.if-m-at-eq0.true)

pub returns-then-m-at : goal.returns-then-m-at
returns-then-m-at c = λ M e o. queued_on _ c.start-at.ensures c.args.cpu.present _ M e o c.if-m-at-eq0.false c.if-m-at.true _ c.not_queued.ensures

pub returns-else-m-at : goal.returns-else-m-at
returns-else-m-at c = λ M e o. rw (eq-eqb _ c.args.x c.if-m-at.false) (in_charge_on _ c.start-at.ensures c.args.cpu.present _ M e o c.if-m-at-eq0.false c.if-m-at.false)
