-- Whether a sorted list has an item of a key. Assumes nothing.
use Rattle.std.specs.Prelude.{Bool, true, false, List, [], ◌∷◌, if◌then◌else◌}
use Rattle.entries.specs.declared.Key.{Key}
use Rattle.entries.specs.declared.Entry.{Entry}
use Rattle.entries.specs.Order.{entry_before}
use Rattle.entries.specs.Queue.{keyed}

-- the item that `insert` would replace and `remove` takes out
unfoldable pub has : {A : Type 0} → (A → A → Bool) → A → List A → Bool
has lt a [] = false
has lt a (x ∷ xs) = if lt a x then false else if lt x a then has lt a xs else true

abbrev pub has_key : Key → List Entry → Bool
has_key k = has entry_before (keyed k)
