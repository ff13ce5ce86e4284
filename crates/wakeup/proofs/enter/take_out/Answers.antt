use Rattle.wakeup.proofs.Entering.{taken_staged}
use Rattle.stages.proofs.Lent.{queue_small}
use Rattle.machine.proofs.Steps.{sized}
use mathlib.Core.Path.{sym, subst}
use Prim.Native.Nat.{◌≤◌}
use native.Mathlib.Omega.{arith}
use borrow.Author.Rules.{rules}
use Rattle.machine.proofs.Places.{lent_word}
use Rattle.percpu.specs.Places.{queue_count}
use Rattle.wakeup.proofs.enter.take_out.Goals as goal

pub slice_bounds-remove-end : goal.slice_bounds-remove-end
slice_bounds-remove-end c = omega (arith, sized c.requires.image)

pub remove-requires : goal.remove-requires
remove-requires c = (search rules, subst (λ y. y ≤ 64) (sym (lent_word c.args.m.now c.args.cpu.n c.args.cpu.k queue_count c.start-at.ensures (omega arith))) (queue_small c.requires.image _ c.args.cpu.present))

pub returns : goal.returns
returns c = taken_staged c.requires.image _ c.start-at.ensures c.args.cpu.present _ _ c.remove.ensures
