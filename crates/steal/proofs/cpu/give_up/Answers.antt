use Rattle.machine.proofs.Steps.{sized}
use mathlib.Core.Path.{sym, subst}
use Prim.Native.Nat.{◌≤◌}
use Rattle.model.specs.Steal.{give_up}
use Rattle.percpu.specs.Cpu.{Cpu}
use Rattle.stages.proofs.Lent.{queue_small, staged_cpu}
use Rattle.steal.proofs.Blocks.{fits_given_up}
use native.Mathlib.Omega.{arith}
use borrow.Author.Rules.{rules}
use Rattle.machine.proofs.Places.{lent_word}
use Rattle.steal.proofs.cpu.give_up.Goals as goal

pub slice_bounds-give_up-end : goal.slice_bounds-give_up-end
slice_bounds-give_up-end c = omega (arith, sized c.requires.image)

pub give_up-requires : goal.give_up-requires
give_up-requires c = (search rules, subst (λ y. y ≤ 64) (sym (lent_word c.args.m.now c.args.cpu.n c.args.cpu.k 21 c.start-at.ensures (omega arith))) (queue_small c.requires.image _ c.args.cpu.present))

pub returns : goal.returns
returns c = staged_cpu c.requires.image _ c.start-at.ensures c.args.cpu.present _ (λ (p : Cpu). give_up c.args.e p) (λ p o e. c.give_up.ensures p e o.queue o.keys_rise) (λ p o. fits_given_up _ c.args.e p o)
