-- `timers::insert` meets its contract. Assumes nothing.
use Rattle.timers.proofs.Table.{timer_table, timer_lies, key_before, key_after}
use Rattle.table.proofs.Sorted.{puts}
use Rattle.table.proofs.Tables.{row}
use Rattle.entries.specs.Order.{sooner}
use Rattle.entries.proofs.Ordered.{timers_ordered}
use Rattle.timers.proofs.insert.Goals as goal

pub returns : goal.returns
unfolding row
returns c = λ k hb g u. puts timer_table timer_lies sooner timers_ordered c.args.t c.args.b.now _ _ (key_before _ _ _ c.into.ensures) (key_after _ _ _ c.into.ensures) k hb g u _ _ c.insert.ensures
