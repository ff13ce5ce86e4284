use mathlib.Core.Path.{◌≡◌}
use Rattle.group_ops.proofs.Naming.{names_start, names_next, names_end}
use Rattle.group_ops.proofs.check_names.Goals as goal

pub loop-x-init : goal.loop-x-init
loop-x-init c =
    let e : c.into_iter-x-iterator.result.rest ≡ c.args.mask = cc (c.into_iter-x-iterator.ensures.into_iter_gives, c.iter-x-items.ensures)
    in λ M _ _. names_start M _ _ _ e

pub loop-x-preserved : goal.loop-x-preserved
loop-x-preserved c = λ M e o. names_next M _ _ _ _ _ _ _ _ c.in-Some.ensures.steps (c.resolve.ensures M e o) c.first_check-first.ensures (c.loop-x.invariant M e o)

pub returns : goal.returns
returns c = λ M e o. names_end M _ _ _ _ c.in-None.ensures.steps.0 (c.loop-x.invariant M e o)
