use Rattle.machine.proofs.Steps.{sized}
use Rattle.wakeup_read.proofs.Draining.{clearing_staged}
use native.Mathlib.Omega.{arith}
use Rattle.wakeup_read.proofs.take_out.clear_local.Goals as goal

pub slice_bounds-clear-end : goal.slice_bounds-clear-end
slice_bounds-clear-end c = omega (arith, sized c.requires.image)

pub returns : goal.returns
returns c = clearing_staged c.requires.image _ c.start-at.ensures c.args.cpu.present _ c.clear.ensures
