-- What a call makes of a machine. Assumes nothing.
use Rattle.std.specs.Prelude.{Bool, false, ℕ}
use Rattle.machine.specs.Machine.{Machine}

pub record Outcome : Type 0 where
  pub machine : Machine
  pub result : ℕ
  pub interrupt : Bool
  -- the number of the rule that decided; 0 where nothing was decided
  pub rule : ℕ
  -- an insertion put over 64 items in a queue, timer set or list
  pub no_room : Bool

-- a machine and a result, and nothing else
abbrev pub finished : ℕ → Machine → Outcome
finished r M = record { machine = M; result = r; interrupt = false; rule = 0; no_room = false }
