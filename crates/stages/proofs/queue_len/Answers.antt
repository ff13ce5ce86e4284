use Rattle.stages.proofs.Lent.{queue_counted, queue_small}
use mathlib.Core.Path.{◌∙◌}
use Rattle.machine.proofs.Steps.{sized}
use Rattle.percpu.specs.Places.{queue_count}
use native.Mathlib.Omega.{arith}
use Rattle.machine.proofs.Places.{word_from}
use Rattle.stages.proofs.queue_len.Goals as goal

pub bounds-m-at : goal.bounds-m-at
bounds-m-at c = omega (arith, sized c.requires.image)

pub returns : goal.returns
returns c = let z = word_from c.args.m.now queue_count c.start-at.ensures c.index.ensures in (z, omega (arith, queue_small c.requires.image _ c.args.cpu.present, z), λ M e o. z ∙ queue_counted _ _ c.args.cpu.present M e o)
