-- `entries::Key::before` meets its contract. Assumes nothing.
use mathlib.Core.Path.{◌∙◌}
use lib.Dec.{ltb, eqb}
use Rattle.entries.proofs.Orders.{lt_of_three, same_swapped}
use Rattle.entries.specs.Order.{before}
use Rattle.entries.proofs.Key.before.Goals as goal

pub returns : goal.returns
unfolding before
returns c =
    let a = c.args.self in let b = c.args.other in
    c.lt.ensures ∙ rw (same_swapped a.rem_slice b.rem_slice) (lt_of_three (ltb a.vd b.vd) (eqb a.vd b.vd) (ltb b.rem_slice a.rem_slice) (eqb b.rem_slice a.rem_slice) (ltb a.ctxt_id b.ctxt_id) (eqb a.ctxt_id b.ctxt_id))
