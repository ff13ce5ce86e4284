use Rattle.machine.proofs.Steps.{sized}
use Rattle.model.specs.Steal.{count_steal}
use Rattle.percpu.specs.Cpu.{Cpu}
use Rattle.stages.proofs.Lent.{staged_cpu}
use Rattle.steal.proofs.Blocks.{fits_counted}
use native.Mathlib.Omega.{arith}
use Rattle.steal.proofs.count_steal.Goals as goal

pub slice_bounds-count_steal-end : goal.slice_bounds-count_steal-end
slice_bounds-count_steal-end c = omega (arith, sized c.requires.image)

pub returns : goal.returns
returns c = staged_cpu c.requires.image _ c.start-at.ensures c.args.cpu.present _ (λ (p : Cpu). count_steal p) (λ p o e. c.count_steal.ensures p e) (λ p o. fits_counted _ p o)
