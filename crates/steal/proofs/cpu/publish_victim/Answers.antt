use Rattle.machine.proofs.Steps.{sized}
use Rattle.model.specs.Steal.{published, mark_stealable}
use Rattle.percpu.specs.Cpu.{Cpu}
use Rattle.stages.proofs.Lent.{staged_cpu}
use Rattle.steal.proofs.Blocks.{fits_marked}
use native.Mathlib.Omega.{arith}
use Rattle.steal.proofs.cpu.publish_victim.Goals as goal

pub slice_bounds-publish_victim-end : goal.slice_bounds-publish_victim-end
slice_bounds-publish_victim-end c = omega (arith, sized c.requires.image)

pub returns : goal.returns
returns c = staged_cpu c.requires.image _ c.start-at.ensures c.args.cpu.present _ (λ (p : Cpu). mark_stealable (published p)) (λ p o e. c.publish_victim.ensures p e) (λ p o. fits_marked _ p o)
