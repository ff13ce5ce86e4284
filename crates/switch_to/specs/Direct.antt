-- What the code says of a direct switch, against the definition's Option. Assumes nothing.
use Rattle.std.specs.Prelude.{Bool, true, None, Option, Some, Result, Ok, Err}
use Rattle.model.specs.State.{State}
use Rattle.table.specs.declared.NoRoom.{NoRoom}

-- without room, too, the definition has the switch made
abbrev pub is_switched : Result Bool NoRoom → Bool
is_switched (Ok made) = made
is_switched (Err e) = true

-- the state after the switch, or the same state
abbrev pub or_same : State → Option State → State
or_same s None = s
or_same s (Some s') = s'
