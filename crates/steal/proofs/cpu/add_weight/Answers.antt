use Rattle.machine.proofs.Steps.{sized}
use mathlib.Core.Path.{sym, subst}
use Prim.Native.Nat.{◌≤◌, ◌+◌}
use Rattle.percpu.specs.With.{cpu_total_weight}
use Rattle.percpu.specs.Cpu.{Cpu}
use Rattle.stages.proofs.Lent.{staged_cpu}
use Rattle.steal.proofs.Blocks.{fits_weight}
use native.Mathlib.Omega.{arith}
use borrow.Author.Rules.{rules}
use Rattle.stages.specs.Bounds.{b_moving}
use Rattle.machine.proofs.Places.{lent_word}
use Rattle.steal.proofs.cpu.add_weight.Goals as goal

pub slice_bounds-add_weight-end : goal.slice_bounds-add_weight-end
slice_bounds-add_weight-end c = omega (arith, sized c.requires.image)

pub add_weight-requires : goal.add_weight-requires
add_weight-requires c = (search rules, subst (λ y. y ≤ b_moving) (sym (lent_word c.args.m.now c.args.cpu.n c.args.cpu.k 20 c.start-at.ensures (omega arith))) c.requires.bounded.1, c.requires.bounded.0)

pub returns : goal.returns
returns c = staged_cpu c.requires.image _ c.start-at.ensures c.args.cpu.present _ (λ (p : Cpu). cpu_total_weight (p.block.total_weight + c.args.weight) p) (λ p o e. c.add_weight.ensures p e) (λ p o. fits_weight _ _ p o)
