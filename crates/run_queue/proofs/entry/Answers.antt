-- `run_queue::entry` meets its contract. Assumes nothing.
use Rattle.table.specs.Keys.{key_at}
use Rattle.percpu.specs.Layout.{entry_at}
use Rattle.run_queue.proofs.entry.Goals as goal

pub returns : goal.returns
unfolding entry_at key_at
returns c = rw c.key.ensures
