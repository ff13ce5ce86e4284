use Rattle.machine.proofs.LookUps.{cpu_far, cpu_present, cpu_absent}
use Rattle.machine.proofs.Steps.{sized}
use native.Mathlib.Omega.{arith}
use native.Mathlib.Nat.{add-zero}
use Rattle.machine.proofs.get_percpu_block.Goals as goal

pub returns-then-c-i : goal.returns-then-c-i
returns-then-c-i c = λ M e o. cpu_far _ _ M e o _ c.index-i.ensures c.if-c-i.true

pub bounds-m-at : goal.bounds-m-at
bounds-m-at c = omega (arith, sized c.requires)

pub returns-then-m-at-eq1 : goal.returns-then-m-at-eq1
returns-then-m-at-eq1 c = λ M e o. cpu_present _ _ M e o _ c.index-i.ensures c.cpu_place-at.ensures c.if-c-i.false (rw add-zero at c.if-m-at-eq1.true)

pub returns : goal.returns
returns c = λ M e o. cpu_absent _ _ M e o _ c.index-i.ensures c.cpu_place-at.ensures c.if-c-i.false (rw add-zero at c.if-m-at-eq1.false)
