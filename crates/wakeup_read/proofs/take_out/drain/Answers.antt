use mathlib.Core.Path.{refl}
use Rattle.wakeup_read.proofs.Draining.{all_drained}
use Rattle.wakeup_read.proofs.take_out.drain.Goals as goal

pub clear_local-requires : goal.clear_local-requires
clear_local-requires c = record { image = c.drain_timers.ensures.image refl }

pub returns : goal.returns
returns c = all_drained _ c.args.cpu.present c.drain_timers.ensures c.clear_local.ensures
