use Rattle.wakeup_read.proofs.Items.{local_counted, local_small}
use Rattle.machine.proofs.Steps.{sized}
use Rattle.machine.proofs.Places.{word_from}
use Rattle.percpu.specs.Places.{local_count}
use mathlib.Core.Path.{◌∙◌}
use native.Mathlib.Omega.{arith}
use Rattle.wakeup_read.proofs.local_len.Goals as goal

pub bounds-m-at : goal.bounds-m-at
bounds-m-at c = omega (arith, sized c.requires.image)

pub returns : goal.returns
returns c = let z = word_from c.args.m.now local_count c.start-at.ensures c.index.ensures in (z, omega (arith, local_small c.requires.image _ c.args.cpu.present, z), λ M e o. z ∙ local_counted _ _ c.args.cpu.present M e o)
