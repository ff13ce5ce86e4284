-- What an array and a count stand for. Assumes nothing.
use Rattle.std.specs.Prelude.{◌≡◌, true, false, Option, None, Some, List, ℕ, ◌<◌, ◌≤◌, length, get_or, take}
use Rattle.entries.specs.declared.Entry.{Entry}
use Rattle.entries.specs.Order.{entry_before}
use Rattle.model.specs.State.{too_many}
use Rattle.plain_model.specs.Rank.{rank}
use Rattle.plain_lists.specs.declared.fixed.FixedVec.{FixedVec}

abbrev pub Queue : Type 0
Queue = FixedVec Entry 64

module _ {T : Type 0} {n : ℕ} where
  abbrev pub items_of : FixedVec T n → List T
  items_of q = take q.len q.items

  -- n places, so many of them in use
  pub record Sized (q : FixedVec T n) : Type 0 where
    pub places : length q.items ≡ n
    pub used : q.len ≤ n

  -- q stands for the list l
  pub record Stands (q : FixedVec T n) (l : List T) : Type 0 where
    pub sized : Sized q
    pub is : items_of q ≡ l

abbrev pub entries_of : Queue → List Entry
entries_of q = items_of q

-- r has, for each entry, how many come before it
pub record Ranks (q : Queue) (r : List ℕ) : Type 0 where
  pub places : length r ≡ 64
  pub is : (i : ℕ) → i < q.len → (d : Entry) → get_or r i 0 ≡ rank entry_before (entries_of q) (get_or q.items i d)

-- what putting an entry in comes to: the queue that stands for l, nothing if l is too long
abbrev pub PutIn : Option Queue → List Entry → Type 0
PutIn None l = true ≡ too_many l
PutIn (Some q) l = (false ≡ too_many l) × Stands q l
