-- Entries moved from CPU t to CPU k of the machine. Assumes nothing.
use Rattle.std.specs.Prelude.{◌≡◌, Bool, false, List, ℕ, ◌<◌, ◌≤◌, set, if◌then◌else◌, Option, Some, None, Result, Ok, Err}
use Rattle.table.specs.declared.NoRoom.{NoRoom}
use Rattle.machine.specs.Machine.{Machine, cpu_at, context_at}
use Rattle.machine.specs.Encode.{encode}
use Rattle.machine.specs.Shape.{Fits, Image}
use Rattle.context.specs.declared.Context.{Context}
use Rattle.entries.specs.declared.Entry.{Entry}
use Rattle.model.specs.State.{State, state_of, on_cpu, put_context, insert_entry}
use Rattle.model.specs.Steal.{Stealing, Moving, first_wins, published, mark_stealable}
use Rattle.stages.specs.Bounds.{b_charged, b_moving}
use Rattle.context.specs.Key.{with_new_key, entry_of}

abbrev pub moving_of : (k t : ℕ) → Option ℕ → Machine → Moving
moving_of k t w M = record { state = state_of k M; victim = cpu_at M t; winner = w }

abbrev pub put_moving : (k t : ℕ) → Moving → Machine → Machine
put_moving k t v M = record { contexts = v.state.contexts; cpus = set (set M.cpus t v.victim) k v.state.cpu }

-- of one machine M that m stood for: v is what the moves come to
pub record MovesAt (c n k t : ℕ) (m' : List ℕ) (full : Bool) (w' : Option ℕ) (v : Moving) (M : Machine) : Type 0 where
  pub room : full ≡ v.state.no_room
  pub after : full ≡ false → m' ≡ encode (put_moving k t v M)
  pub fits : full ≡ false → Fits c n (put_moving k t v M)
  pub winner : full ≡ false → w' ≡ v.winner

pub record Moves (c n k t : ℕ) (m m' : List ℕ) (full : Bool) (w w' : Option ℕ) (f : Moving → Moving) : Type 0 where
  pub image : full ≡ false → Image c n m'
  pub moves : (M : Machine) → m ≡ encode M → Fits c n M → MovesAt c n k t m' full w' (f (moving_of k t w M)) M

-- no sum that a move makes overflows
pub record Movable (c n k : ℕ) (m : List ℕ) : Type 0 where
  pub M : Machine
  pub eq : m ≡ encode M
  pub fits : Fits c n M
  pub v : (cpu_at M k).block.v ≤ b_charged
  pub total_weight : (cpu_at M k).block.total_weight ≤ b_moving
  pub vtime : (x : ℕ) → x < n → (context_at M.contexts x).vtime ≤ b_moving

-- a stolen record taken in by this CPU, and who has won then
unfoldable pub taken_in : Bool → Option ℕ → Entry → Context → State → State
taken_in runs w e q s =
    if first_wins runs w then put_context e.context_ref q s else
    insert_entry (entry_of e.context_ref e.weight q) (put_context e.context_ref (with_new_key q) s)

abbrev pub winner_in : Bool → Option ℕ → Entry → Option ℕ
winner_in runs w e = if first_wins runs w then Some e.context_ref else w

-- who has won; where there was no room nothing is said of it
abbrev pub winner_of : Result (Option ℕ) NoRoom → Option ℕ
winner_of (Ok w) = w
winner_of (Err e) = None

-- what other CPUs read, on both
abbrev pub finished : Moving → Moving
finished v = record { state = on_cpu published v.state; victim = mark_stealable (published v.victim); winner = v.winner }

-- the machine that a state of the stealing stands for
abbrev pub machine_of : ℕ → Stealing → Machine
machine_of k l = record { contexts = l.state.contexts; cpus = set l.cpus k l.state.cpu }

-- l is what the stealing comes to
pub record StealsAt (c n k : ℕ) (m' : List ℕ) (full : Bool) (w' : Option ℕ) (l : Stealing) : Type 0 where
  pub room : full ≡ l.state.no_room
  pub after : full ≡ false → m' ≡ encode (machine_of k l)
  pub fits : full ≡ false → Fits c n (machine_of k l)
  pub winner : full ≡ false → w' ≡ l.winner

pub record Steals (c n k : ℕ) (m m' : List ℕ) (full : Bool) (w' : Option ℕ) (f : Machine → Stealing) : Type 0 where
  pub image : full ≡ false → Image c n m'
  pub steals : (M : Machine) → m ≡ encode M → Fits c n M → StealsAt c n k m' full w' (f M)
