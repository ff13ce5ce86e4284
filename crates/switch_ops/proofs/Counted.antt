-- Where the counts leave room for certain. Assumes nothing.
use mathlib.Core.Path.{◌≡◌, sym, ◌∙◌}
use mathlib.Core.Bool.{Bool, true, false}
use mathlib.Core.List.{List}
use Prim.Native.Nat.{ℕ, ◌+◌, ◌<◌, ◌≤◌}
use lib.Dec.{ltb}
use lib.ListN.{length, get_or}
use borrow.Author.Tests.{ltb-true}
use Rattle.machine.specs.Machine.{Machine, cpu_at}
use Rattle.machine.specs.Encode.{encode, cpu_place}
use Rattle.machine.specs.Shape.{Fits, Image}
use Rattle.model.specs.Accepted.{Call, outcome}
use Rattle.model_room.proofs.Certain.{room_certain}
use Rattle.stages.proofs.Lent.{queue_counted, timers_counted, queue_small, timers_small}
use Rattle.wakeup_read.proofs.Items.{local_counted, local_small}
use Rattle.percpu.specs.Places.{queue_count, timers_count, local_count}

-- at: where the block of CPU k stands
pub small_counts : {c n : ℕ} {m : List ℕ} (i : Image c n m) (k : ℕ) {at : ℕ} → at ≡ cpu_place n k → k < c
    → (get_or m (at + queue_count) 0 ≤ 64) × (get_or m (at + timers_count) 0 ≤ 64) × (get_or m (at + local_count) 0 ≤ 64)
small_counts i k p h = (rw p (queue_small i k h), rw p (timers_small i k h), rw p (local_small i k h))

pub counts_are : {c n : ℕ} (m : List ℕ) (k : ℕ) {at : ℕ} → at ≡ cpu_place n k → k < c → (M : Machine) → m ≡ encode M → Fits c n M
    → ltb (get_or m (at + queue_count) 0 + get_or m (at + timers_count) 0 + get_or m (at + local_count) 0) 64
    ≡ ltb (length (cpu_at M k).queue + length (cpu_at M k).timers + length (cpu_at M k).local_wakeup_list) 64
counts_are m k p h M e o = rw (p, queue_counted m k h M e o, timers_counted m k h M e o, local_counted m k h M e o)

pub certain : {c n : ℕ} {r : Bool} (k time : ℕ) (call : Call) (M : Machine) → Fits c n M → k < c
    → r ≡ ltb (length (cpu_at M k).queue + length (cpu_at M k).timers + length (cpu_at M k).local_wakeup_list) 64 → r ≡ true → (outcome call k time M).no_room ≡ false
certain {c} {n} k time call M o h e t = room_certain c n k time call M o h (ltb-true _ _ (sym e ∙ t))
