use Rattle.stages.proofs.Lent.{queue_small, staged_removal}
use Prim.Native.Nat.{◌≤◌}
use mathlib.Core.Path.{sym, subst}
use Rattle.machine.proofs.Steps.{sized}
use native.Mathlib.Omega.{arith}
use borrow.Author.Rules.{rules}
use Rattle.machine.proofs.Places.{lent_word}
use Rattle.stages.proofs.remove_key.Goals as goal

pub slice_bounds-remove_key-end : goal.slice_bounds-remove_key-end
slice_bounds-remove_key-end c = omega (arith, sized c.requires.image)

pub remove_key-requires : goal.remove_key-requires
remove_key-requires c = (search rules, subst (λ y. y ≤ 64) (sym (lent_word c.args.m.now c.args.cpu.n c.args.cpu.k 21 c.start-at.ensures (omega arith))) (queue_small c.requires.image _ c.args.cpu.present))

pub returns : goal.returns
returns c = staged_removal c.requires.image _ c.start-at.ensures c.args.cpu.present _ _ c.remove_key.ensures
