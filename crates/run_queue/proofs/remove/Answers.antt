-- `run_queue::remove` meets its contract. Assumes nothing.
use mathlib.Core.Path.{refl}
use Rattle.run_queue.proofs.Table.{queue_table, queue_lies}
use Rattle.table.proofs.Sorted.{takes}
use Rattle.table.specs.Keys.{key_at}
use Rattle.percpu.specs.Layout.{entry_at}
use Rattle.entries.specs.Queue.{keyed}
use Rattle.entries.specs.Order.{entry_before}
use Rattle.entries.proofs.Ordered.{entries_ordered}
use Rattle.run_queue.proofs.remove.Goals as goal

pub returns : goal.returns
unfolding key_at entry_at
returns c = λ k hb g u. takes queue_table queue_lies entry_before entries_ordered (keyed c.args.k) c.args.b.now _ _ (λ i. refl) (λ i. refl) k hb g u _ _ c.remove.ensures
