use Rattle.stages.proofs.Lent.{staged_name}
use Rattle.machine.proofs.Steps.{sized}
use native.Mathlib.Omega.{arith}
use Rattle.stages.proofs.push_local.Goals as goal

pub slice_bounds-push_local-end : goal.slice_bounds-push_local-end
slice_bounds-push_local-end c = omega (arith, sized c.requires.image)

pub returns : goal.returns
returns c = staged_name c.requires.image _ c.start-at.ensures c.args.cpu.present _ _ _ _ c.requires.bounded c.word-name.ensures c.push_local.ensures
