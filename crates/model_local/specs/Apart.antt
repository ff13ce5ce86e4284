-- Document 02, No. 14, of machines: two CPUs that name no context together, and a switch that falls on a stealing turn. Assumes nothing.
use Rattle.std.specs.Prelude.{◌≡◌, Bool, true, not, ◌&&◌, ℕ, length}
use Rattle.columns.specs.Common.{every}
use Rattle.machine.specs.Machine.{Machine, cpu_at}
use Rattle.model.specs.State.{State, state_of}
use Rattle.model.specs.Turn.{before_choice}
use Rattle.model.specs.Choice.{choice, chosen}
use Rattle.model.specs.Steal.{should_steal}
use Rattle.model.specs.Schedule.{switch, scanned}
use Rattle.model.specs.Accepted.{by_switch, decides}
use Rattle.model_local.specs.Names.{names, is_named}
use Rattle.model_local.specs.Local.{SameAnswer}

-- context x is named by CPU k, in whatever role
abbrev pub names_context : Machine → ℕ → ℕ → Bool
names_context M k x = is_named (names (cpu_at M k)) x

-- no context is named by both, in any roles together
abbrev pub Apart : Machine → (one other : ℕ) → Type 0
Apart M one other = (x : ℕ) → names_context M one x ≡ true → names_context M other x ≡ true → ⊥

-- the same as a test over the machine's contexts
unfoldable pub are_apart : Machine → (one other : ℕ) → Bool
are_apart M one other = every (λ (x : ℕ). not (names_context M one x && names_context M other x)) (length M.contexts)

-- the choice of a decision in state s finds the steal counter at its interval: every 2nd value if idle is in charge without a winner, else every 16th
unfoldable pub finds_stealing_turn : (k time : ℕ) → State → Bool
finds_stealing_turn k time s =
    let b = before_choice time s in
    let f = scanned k time b in
    let w = choice b f in
    should_steal (chosen w f b) w.winner

-- a switch of CPU k falls on a stealing turn; one that goes back directly decides nothing and never does
abbrev pub falls_on_stealing_turn : (k time : ℕ) → Machine → Bool
falls_on_stealing_turn k time M = decides k time M by_switch && finds_stealing_turn k time (state_of k M)

-- a switch of CPU `one` at s and a switch of CPU `other` at t leave the same machine in either order, and each answers the same
pub record EitherOrder (M : Machine) (one s other t : ℕ) : Type 0 where
  pub machine : (switch other t (switch one s M).machine).machine ≡ (switch one s (switch other t M).machine).machine
  pub answer : SameAnswer (switch one s M) (switch one s (switch other t M).machine)
  pub answer' : SameAnswer (switch other t M) (switch other t (switch one s M).machine)
