use Rattle.stages.proofs.Lent.{remainder_read, remainder_small}
use Rattle.machine.proofs.Places.{word_from}
use Rattle.machine.proofs.Steps.{sized}
use Rattle.percpu.specs.Places.{remainder_place}
use mathlib.Core.Path.{refl, ◌∙◌}
use native.Mathlib.Omega.{arith}
use Rattle.stages.proofs.remainder.Goals as goal

pub bounds-m-at : goal.bounds-m-at
bounds-m-at c = omega (arith, sized c.requires.image)

pub returns : goal.returns
returns c = let z = word_from c.args.m.now remainder_place c.start-at.ensures refl in (omega (arith, remainder_small c.requires.image _ c.args.cpu.present, z), λ M e o. z ∙ remainder_read _ _ c.args.cpu.present M e o)
