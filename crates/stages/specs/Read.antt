-- What is read from the image, and the names that a block may have. Assumes nothing.
use Rattle.std.specs.Prelude.{◌≡◌, ℕ, ◌<◌, List, get_or}
use Rattle.entries.specs.declared.Entry.{Entry}
use Rattle.percpu.specs.declared.PercpuBlock.{PercpuBlock}
use Rattle.percpu.specs.Layout.{no_entry}
use Rattle.machine.specs.Machine.{Machine, cpu_at}
use Rattle.machine.specs.Encode.{encode}
use Rattle.machine.specs.Shape.{EntryFits, Fits}

pub record BlockFits (n : ℕ) (b : PercpuBlock) : Type 0 where
  pub current : b.current_ctxt < n
  pub sched : b.sched_ctxt < n
  pub idle : b.idle_ctxt < n

-- r is entry i of CPU k's queue, and in its ranges
pub record EntryRead (c n k i : ℕ) (m : List ℕ) (r : Entry) : Type 0 where
  pub is : (M : Machine) → m ≡ encode M → Fits c n M → r ≡ get_or (cpu_at M k).queue i no_entry
  pub fits : EntryFits n r
