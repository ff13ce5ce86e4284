use Rattle.context_ops.proofs.Waking.{count_below, pushed}
use Rattle.machine.proofs.Steps.{sized}
use Prim.Native.Nat.{◌<◌}
use mathlib.Core.Path.{sym, subst}
use native.Mathlib.Omega.{arith}
use borrow.Author.Rules.{rules}
use Rattle.machine.proofs.Places.{lent_word}
use Rattle.wakeup_lists.specs.Lists.{count_place}
use Rattle.context_ops.proofs.wake.push.Goals as goal

pub slice_bounds-push-end : goal.slice_bounds-push-end
slice_bounds-push-end c = omega (arith, sized c.requires.image)

pub push-requires : goal.push-requires
push-requires c = (search rules, subst (λ y. y < 64) (sym (lent_word c.args.m.now c.args.n c.args.t (count_place c.args.list) c.cpu_place-at.ensures (count_below c.args.list))) c.requires.t_lt_c.2)

pub returns : goal.returns
returns c = pushed c.requires.image _ _ _ c.cpu_place-at.ensures _ c.requires.t_lt_c.0 c.requires.t_lt_c.1 c.word-name.ensures c.args.list c.requires.t_lt_c.2 c.push.ensures.b_after
