use Rattle.machine.proofs.LookUps.{look_far, look_gone, look_live}
use Rattle.machine.proofs.Steps.{sized}
use native.Mathlib.Omega.{arith}
use native.Mathlib.Nat.{add-zero}
use Rattle.machine.proofs.look_up.Goals as goal

pub returns-then-n-i : goal.returns-then-n-i
returns-then-n-i c = λ M e o. look_far _ _ M e o _ c.index-i.ensures c.if-n-i.true

pub bounds-m-at : goal.bounds-m-at
bounds-m-at c = omega (arith, sized c.requires)

pub returns-then-m-at-eq1 : goal.returns-then-m-at-eq1
returns-then-m-at-eq1 c = λ M e o. look_gone _ _ M e o _ c.index-i.ensures c.context_place-at.ensures c.if-n-i.false (rw add-zero at c.if-m-at-eq1.true)

pub returns : goal.returns
returns c = λ M e o. look_live _ _ M e o _ c.index-i.ensures c.context_place-at.ensures c.if-n-i.false (rw add-zero at c.if-m-at-eq1.false)
