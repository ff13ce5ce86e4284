use Rattle.stages.proofs.Lent.{staged_block}
use Rattle.machine.proofs.Steps.{sized}
use native.Mathlib.Omega.{arith}
use Rattle.stages.proofs.store_block.Goals as goal

pub slice_bounds-store-end : goal.slice_bounds-store-end
slice_bounds-store-end c = omega (arith, sized c.requires.image)

pub returns : goal.returns
returns c = staged_block c.requires.image _ c.start-at.ensures c.args.cpu.present _ _ c.requires.block_fits c.store.ensures
