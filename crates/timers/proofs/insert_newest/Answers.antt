-- `timers::insert_newest` meets its contract. Assumes nothing.
use Rattle.entries.specs.Order.{sooner}
use Rattle.entries.proofs.Ordered.{sorted_keep}
use Rattle.timers.specs.Put.{newest}
use Rattle.timers.proofs.Superseding.{newest_short}
use Rattle.timers.proofs.insert_newest.Goals as goal

pub returns : goal.returns
returns c = λ p z g s. c.insert.ensures (newest _ p) (c.remove_superseded.ensures.1 p z g) (newest_short _ p g) (sorted_keep _ sooner p.timers s)
