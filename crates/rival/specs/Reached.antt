-- The choices that one has, and what the turns ask of the image and the time. Assumes nothing.
use Rattle.std.specs.Prelude.{List, [], ◌∷◌, ℕ, ◌+◌, ◌*◌, ◌≤◌, ◌<◌, eqb, if◌then◌else◌}
use Rattle.percpu.specs.Places.{block_size}
use Rattle.machine.specs.Encode.{cpu_place, max_image_size}
use Rattle.numbers.specs.Limits.{half_range}
use Rattle.rounds.specs.Round.{go_on_nanos}
use Rattle.rounds.specs.declared.Choice.{Choice}
use Rattle.rounds.specs.declared.Choice.TheVariants.{GoOn, Yield, Block}
use Rattle.rival.specs.declared.turns.Parties.{Parties}
use Rattle.rival.specs.Game.{in_charge}

-- in their order
abbrev pub choices : List Choice
choices = GoOn ∷ (Yield ∷ (Block ∷ []))

-- of the one in charge that is not the writer
abbrev pub choices_against : Parties → List ℕ → List Choice
choices_against p m = if eqb (in_charge p m) p.rival then choices else GoOn ∷ []

-- the parties are contexts of an image of that length
pub record Inside (p : Parties) (size : ℕ) : Type 0 where
  pub contexts : p.contexts ≤ 64
  pub cpu : p.cpu ≤ 3
  pub writer : p.writer < p.contexts
  pub rival : p.rival < p.contexts
  pub long : cpu_place p.contexts p.cpu + block_size ≤ size
  pub short : size ≤ max_image_size

-- the times of so many rounds to come are words
abbrev pub InTime : (rounds time : ℕ) → Type 0
InTime rounds time = time + rounds * go_on_nanos ≤ half_range
