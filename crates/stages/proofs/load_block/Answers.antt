use Rattle.machine.proofs.Places.{lent_is}
use Rattle.machine.proofs.Steps.{sized}
use native.Mathlib.Omega.{arith}
use Rattle.stages.proofs.load_block.Goals as goal

pub slice_bounds-load-end : goal.slice_bounds-load-end
slice_bounds-load-end c = omega (arith, sized c.requires.image)

pub returns : goal.returns
returns c = λ M e o. c.load.ensures _ (lent_is _ _ c.start-at.ensures c.args.cpu.present M e o)
