-- Writer against rival (document 02, No. 13): whether the writer can force itself into charge. Assumes nothing.
use Rattle.std.specs.Prelude.{Bool, false, not, ◌&&◌, ◌||◌, List, ℕ, zero, suc, ◌+◌, ◌-◌, leb, eqb, get_or, if◌then◌else◌, None, Option, Some, Err, Ok, Result}
use Rattle.columns.specs.Common.{mark}
use Rattle.percpu.specs.Places.{sched_ctxt_place}
use Rattle.machine.specs.Encode.{decode, cpu_place}
use Rattle.machine.specs.LookUp.{look_up, get_percpu_block}
use Rattle.calls.specs.Call.{check}
use Rattle.rounds.specs.declared.Choice.{Choice}
use Rattle.rounds.specs.declared.Choice.TheVariants.{GoOn, Yield, Block}
use Rattle.rounds.specs.Round.{nanos, played}
use Rattle.rival.specs.declared.Game.{Game}
use Rattle.rival.specs.declared.turns.Parties.{Parties}

-- g: whether the writer can force the end after a choice. For the writer some choice will do, and the first is named
abbrev pub some_choice : (Choice → Bool) → Bool
some_choice g = g GoOn || (g Yield || g Block)

unfoldable pub first_choice : (Choice → Bool) → Option Choice
first_choice g = if g GoOn then Some GoOn else if g Yield then Some Yield else if g Block then Some Block else None

abbrev pub number : Choice → ℕ
number GoOn = 1
number Yield = 2
number Block = 3

-- 0 for none
abbrev pub choice_number : Option Choice → ℕ
choice_number None = 0
choice_number (Some c) = number c

-- for the rival every choice
abbrev pub every_choice : (Choice → Bool) → Bool
every_choice g = g GoOn && (g Yield && g Block)

-- f: whether the writer can force the end from an image. A branch in which a call is refused is lost to it
abbrev pub won : (List ℕ → Bool) → Option (List ℕ) → Bool
won f None = false
won f (Some m) = f m

module _ (p : Parties) where
  -- who is in charge of the CPU
  abbrev pub in_charge : List ℕ → ℕ
  in_charge m = get_or m (cpu_place p.contexts p.cpu + sched_ctxt_place) 0

  -- the one in charge, x, chooses; where that is neither of them it goes on
  unfoldable pub turn : (x : ℕ) → (Choice → Bool) → Bool
  turn x g =
      if eqb x p.writer then some_choice g else
      if eqb x p.rival then every_choice g else g GoOn

  -- from an image at that time, with so many rounds to come: the writer can force itself into charge at the end of the last
  unfoldable pub forces : (rounds time : ℕ) → List ℕ → Bool
  forces zero time m = eqb (in_charge m) p.writer
  forces (suc r) time m =
      turn (in_charge m) (λ (c : Choice). won (forces r (time + nanos c)) (played p.cpu (in_charge m) time c m))

  -- the same after a choice of x in the first of them
  abbrev pub forces_after : (rounds time : ℕ) → List ℕ → (x : ℕ) → Choice → Bool
  forces_after rounds time m x c = won (forces (rounds - 1) (time + nanos c)) (played p.cpu x time c m)

  -- the writer is not in charge: against every choice of the rival, if that is, else after a go on
  abbrev pub forces_against : (rounds time : ℕ) → List ℕ → Bool
  forces_against rounds time m =
      if eqb (in_charge m) p.rival
      then every_choice (forces_after rounds time m p.rival)
      else forces_after rounds time m p.rival GoOn

  -- a choice is named where the writer has the first one
  unfoldable pub game : (rounds time : ℕ) → List ℕ → Game
  game rounds time m =
      record {
        refusal = 0;
        forced = mark (forces rounds time m);
        choice = if eqb (in_charge m) p.writer then choice_number (first_choice (forces_after rounds time m p.writer)) else 0;
      }

abbrev pub refused : ℕ → Game
refused r = record { refusal = r; forced = 0; choice = 0 }

-- 1 to 6 rounds of two parties
unfoldable pub is_game : (writer rival rounds : ℕ) → Bool
is_game writer rival rounds = leb 1 rounds && (leb rounds 6 && not (eqb writer rival))

-- the CPU and both parties, as looked up; n: how many contexts the image has
unfoldable pub parties : (n : ℕ) → Option ℕ → Option ℕ → Option ℕ → Result Parties ℕ
parties n None writer rival = Err 5
parties n (Some k) None rival = Err 5
parties n (Some k) (Some w) None = Err 5
parties n (Some k) (Some w) (Some r) = Ok (record { contexts = n; cpu = k; writer = w; rival = r })

-- refusal 14 comes last
unfoldable pub game_of : (rounds time : ℕ) → List ℕ → Result Parties ℕ → Game
game_of rounds time m (Err r) = refused r
game_of rounds time m (Ok p) = if is_game p.writer p.rival rounds then game p rounds time m else refused 14

unfoldable pub rival_by : List ℕ → (cpu time writer rival rounds : ℕ) → Result (ℕ × ℕ) ℕ → Game
rival_by m cpu time writer rival rounds (Err r) = refused r
rival_by m cpu time writer rival rounds (Ok (c, n)) =
    game_of rounds time m (parties n (get_percpu_block (decode m) cpu) (look_up (decode m) writer) (look_up (decode m) rival))

abbrev pub rival_call : List ℕ → (cpu time writer rival rounds : ℕ) → Game
rival_call m cpu time writer rival rounds = rival_by m cpu time writer rival rounds (check m time)
