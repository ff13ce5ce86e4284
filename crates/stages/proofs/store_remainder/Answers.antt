use Rattle.stages.proofs.Lent.{staged_remainder}
use Rattle.machine.proofs.Steps.{sized}
use native.Mathlib.Omega.{arith}
use Rattle.stages.proofs.store_remainder.Goals as goal

pub slice_bounds-store_remainder-end : goal.slice_bounds-store_remainder-end
slice_bounds-store_remainder-end c = omega (arith, sized c.requires.image)

pub returns : goal.returns
returns c = staged_remainder c.requires.image _ c.start-at.ensures c.args.cpu.present _ _ c.requires.bounded c.store_remainder.ensures
