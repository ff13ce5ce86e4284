-- `timers::due` meets its contract. Assumes nothing.
use native.Mathlib.Omega.{arith}
use native.Mathlib.Nat.{add-sub_cancel_left}
use Rattle.columns.specs.Blocks.{part}
use Rattle.timers.proofs.Table.{first_due, due_is}
use Rattle.timers.proofs.due.Goals as goal

pub returns : goal.returns
unfolding part
returns c =
    (omega arith, due_is _ _ _ (first_due c.args.b.now c.args.time _ _ _ (rw add-sub_cancel_left) (omega arith) c.first_above.ensures.within c.first_above.ensures.before c.first_above.ensures.at))
