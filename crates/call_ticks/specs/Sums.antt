-- Document 02, No. 8, of calls on images: the ticks that the accepted decisions of a CPU gave, the time that they took, and the remainder that
-- each found. Assumes nothing.
use Rattle.std.specs.Prelude.{◌≡◌, true, List, [], ◌∷◌, ℕ, ◌+◌, ◌*◌, eqb, if◌then◌else◌}
use Rattle.ticks.specs.declared.Spent.{Spent}
use Rattle.ticks.specs.Ticks.{nanos_per_tick, scale}
use Rattle.machine.specs.Machine.{Machine, cpu_at}
use Rattle.machine.specs.Encode.{decode}
use Rattle.model.specs.Turn.{spent}
use Rattle.model.specs.Accepted.{Call, by_tick, by_switch, by_direct_switch, decides}
use Rattle.model_ticks.specs.Turns.{decision_by, no_turn, turn_ended}
use Rattle.ronthuyal.specs.Demand.{StandsFor}
use Rattle.call_weights.specs.Kept.{ImageCall, operation_call, group_call, reply_of}

-- the turn of CPU k that a call ends, by the operation's number; operations 4 to 7 end none
unfoldable pub turn_by : (k : ℕ) → Machine → (operation cpu time context : ℕ) → Spent
turn_by k M operation cpu time context =
    if eqb operation 1 then turn_ended k M by_tick cpu time else
    if eqb operation 2 then turn_ended k M by_switch cpu time else
    if eqb operation 3 then turn_ended k M (by_direct_switch context) cpu time else no_turn

-- a refused call ends none, nor does a group
unfoldable pub turn_of_call : (k : ℕ) → List ℕ → ImageCall → Spent
turn_of_call k m (operation_call operation cpu time context) =
    if eqb (reply_of m (operation_call operation cpu time context)).answer.refusal 0 then turn_by k (decode m) operation cpu time context else no_turn
turn_of_call k m (group_call cpu time mask) = no_turn

-- the last word of CPU k's block
abbrev pub carried : (k : ℕ) → List ℕ → ℕ
carried k m = (cpu_at (decode m) k).remainder

-- a call, and the image that it was made on
pub record Made : Type 0 where
  pub image : List ℕ
  pub call : ImageCall

abbrev pub image_left : Made → List ℕ
image_left c = (reply_of c.image c.call).image

-- the first call finds the remainder r of CPU k, each later one finds what the one before it left, and the last one leaves r'. Nothing is said of
-- any other word between two calls
abbrev pub Carries : (k r : ℕ) → List Made → ℕ → Type 0
Carries k r [] r' = r ≡ r'
Carries k r (c ∷ cs) r' = (carried k c.image ≡ r) × Carries k (carried k (image_left c)) cs r'

-- summed over the accepted decisions of CPU k: the ticks that charging and V went by, and the nanoseconds
abbrev pub ticks_given : (k : ℕ) → List Made → ℕ
ticks_given k [] = 0
ticks_given k (c ∷ cs) = (turn_of_call k c.image c.call).ticks + ticks_given k cs

abbrev pub time_taken : (k : ℕ) → List Made → ℕ
time_taken k [] = 0
time_taken k (c ∷ cs) = (turn_of_call k c.image c.call).elapsed + time_taken k cs

-- no part of a tick is lost, over any calls of any CPUs
abbrev pub Conserved : Type 0
Conserved = (k r r' : ℕ) (cs : List Made) → Carries k r cs r' → ticks_given k cs * nanos_per_tick + r' ≡ time_taken k cs * scale + r

-- calls one after the other, each on the image that the one before it left
abbrev pub in_turn : List ℕ → List ImageCall → List Made
in_turn m [] = []
in_turn m (c ∷ cs) = record { image = m; call = c } ∷ in_turn (reply_of m c).image cs

-- m is the image before the call and m' the image after it: the turn of an accepted decision is what its holder is charged for, and what V gains by
pub record TurnCharged (m m' : List ℕ) (operation cpu time context refusal : ℕ) (turn : Spent) : Type 0 where
  pub spends : (c : Call) → StandsFor operation context c → refusal ≡ 0 → decides cpu time (decode m) c ≡ true → turn ≡ spent time (cpu_at (decode m) cpu)
  pub charges : (c : Call) → StandsFor operation context c → refusal ≡ 0 → decides cpu time (decode m) c ≡ true → decode m' ≡ (decision_by turn cpu time (decode m)).machine
