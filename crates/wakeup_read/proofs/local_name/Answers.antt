use Rattle.wakeup_read.proofs.Items.{local_small, name_read}
use Rattle.machine.proofs.Steps.{sized}
use native.Mathlib.Omega.{arith}
use Rattle.wakeup_read.proofs.local_name.Goals as goal

pub overflow_add-at-2 : goal.overflow_add-at-2
overflow_add-at-2 c = omega (arith, local_small c.requires.image _ c.args.cpu.present)

pub offset_bounds-m-at : goal.offset_bounds-m-at
offset_bounds-m-at c = omega (arith, sized c.requires.image, local_small c.requires.image _ c.args.cpu.present)

pub bounds-m-at : goal.bounds-m-at
bounds-m-at c = omega (arith, sized c.requires.image, local_small c.requires.image _ c.args.cpu.present)

pub returns : goal.returns
returns c = name_read c.requires.image _ c.start.ensures c.args.cpu.present _ c.requires.bounded
