-- The same game by whole sequences of choices, each played from the beginning, and by strategies. That forces of Game is both is
-- proved (forces-folded; strategy-wins, counter-wins, answered-forces), so that nobody has to take its some and every on trust. Assumes nothing.
use Rattle.std.specs.Prelude.{Bool, false, List, [], ◌∷◌, ◌++◌, ℕ, zero, suc, ◌+◌, eqb, if◌then◌else◌, None, Option, Some}
use Rattle.rounds.specs.declared.Choice.{Choice}
use Rattle.rounds.specs.declared.Choice.TheVariants.{GoOn}
use Rattle.rounds.specs.Round.{nanos, played}
use Rattle.rival.specs.declared.turns.Parties.{Parties}
use Rattle.rival.specs.Game.{in_charge, won, turn}

-- an image, and the time at which its next round begins
pub record Position : Type 0 where
  pub image : List ℕ
  pub time : ℕ

module _ (p : Parties) where
  -- of a choice that is offered: where neither party is in charge it is a go on
  abbrev pub taken : (x : ℕ) → Choice → Choice
  taken x c = if eqb x p.writer then c else if eqb x p.rival then c else GoOn

  abbrev pub arrived : ℕ → Option (List ℕ) → Option Position
  arrived time None = None
  arrived time (Some m) = Some (record { image = m; time = time })

  -- one round
  abbrev pub moved : Position → Choice → Option Position
  moved q c =
      let d = taken (in_charge p q.image) c in
      arrived (q.time + nanos d) (played p.cpu (in_charge p q.image) q.time d q.image)

  abbrev pub moved_on : Option Position → Choice → Option Position
  moved_on None c = None
  moved_on (Some q) c = moved q c

  -- a sequence of choices, played from the beginning; none: a call was refused
  unfoldable pub reached : Option Position → List Choice → Option Position
  reached o [] = o
  reached o (c ∷ cs) = reached (moved_on o c) cs

  -- the writer is in charge at the end of a sequence
  abbrev pub ends_well : Option Position → Bool
  ends_well None = false
  ends_well (Some q) = eqb (in_charge p q.image) p.writer

  -- whose choice comes after a sequence, and what it is worth: some for the writer, every one for the rival
  abbrev pub chooses : Option Position → (Choice → Bool) → Bool
  chooses None g = false
  chooses (Some q) g = turn p (in_charge p q.image) g

  -- the table of all sequences of so many more choices, folded from the end: its rows are the sequences, each played from q
  unfoldable pub folded : Position → (rounds : ℕ) → List Choice → Bool
  folded q zero cs = ends_well (reached (Some q) cs)
  folded q (suc r) cs = chooses (reached (Some q) cs) (λ (c : Choice). folded q r (cs ++ (c ∷ [])))

-- a strategy: what is chosen after the choices so far
abbrev pub Strategy : Type 0
Strategy = List Choice → Choice

abbrev pub later : Strategy → Choice → Strategy
later s c cs = s (c ∷ cs)

module _ (p : Parties) where
  -- what is chosen with x in charge
  abbrev pub chosen_by : Strategy → Strategy → (x : ℕ) → Choice
  chosen_by writer rival x = if eqb x p.writer then writer [] else if eqb x p.rival then rival [] else GoOn

  -- both play by their strategies: the writer is in charge at the end
  unfoldable pub wins : (rounds : ℕ) → Strategy → Strategy → (time : ℕ) → List ℕ → Bool
  wins zero writer rival time m = eqb (in_charge p m) p.writer
  wins (suc r) writer rival time m =
      let c = chosen_by writer rival (in_charge p m) in
      won (wins r (later writer c) (later rival c) (time + nanos c)) (played p.cpu (in_charge p m) time c m)
