use Rattle.machine.proofs.Steps.{sized}
use Rattle.model.specs.Steal.{published}
use Rattle.percpu.specs.Cpu.{Cpu}
use Rattle.stages.proofs.Lent.{staged_cpu}
use Rattle.steal.proofs.Blocks.{fits_published}
use native.Mathlib.Omega.{arith}
use Rattle.steal.proofs.cpu.publish.Goals as goal

pub slice_bounds-publish-end : goal.slice_bounds-publish-end
slice_bounds-publish-end c = omega (arith, sized c.requires.image)

pub returns : goal.returns
returns c = staged_cpu c.requires.image _ c.start-at.ensures c.args.cpu.present _ (λ (p : Cpu). published p) (λ p o e. c.publish.ensures p e) (λ p o. fits_published _ p o)
