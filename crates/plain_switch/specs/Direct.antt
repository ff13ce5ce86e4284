-- What the code says of a direct switch, against the definition's Option. Assumes nothing.
use Rattle.std.specs.Prelude.{◌≡◌, true, false, ℕ, Option, None, Some, is_some}
use Rattle.model.specs.State.{State}
use Rattle.switch_to.specs.Direct.{or_same}
use Rattle.plain_state.specs.declared.State as code
use Rattle.plain_state.specs.States.{Tracks}

-- o: the state after a switch from S, if one is made
abbrev pub Switches : ℕ → Option code.State → State → Option State → Type 0
Switches n None S o = is_some o ≡ false
Switches n (Some r) S o = (is_some o ≡ true) × Tracks n r (or_same S o)
