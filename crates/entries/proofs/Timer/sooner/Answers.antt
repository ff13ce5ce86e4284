-- `entries::Timer::sooner` meets its contract. Assumes nothing.
use mathlib.Core.Path.{◌∙◌}
use lib.Dec.{ltb, eqb}
use Rattle.entries.proofs.Orders.{lt_of_two}
use Rattle.entries.specs.Order.{sooner}
use Rattle.entries.proofs.Timer.sooner.Goals as goal

pub returns : goal.returns
unfolding sooner
returns c =
    let a = c.args.self in let b = c.args.other in
    c.lt.ensures ∙ lt_of_two (ltb a.wake b.wake) (eqb a.wake b.wake) (ltb a.context_ref b.context_ref) (eqb a.context_ref b.context_ref)
