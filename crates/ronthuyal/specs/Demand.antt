-- Demand 3, of a call on any image. Assumes nothing.
use Rattle.std.specs.Prelude.{◌≡◌, true, ℕ, List}
use Rattle.machine.specs.Encode.{decode}
use Rattle.model.specs.Tidy.{Tidy}
use Rattle.model.specs.Accepted.{Call, by_tick, by_switch, by_direct_switch, decides, ServesOwn}
use Rattle.model.specs.Demand3.{Demand3}

-- the call that an operation's number and a context stand for: operations 1 to 3
abbrev pub StandsFor : (operation context : ℕ) → Call → Type 0
StandsFor operation context by_tick = operation ≡ 1
StandsFor operation context by_switch = operation ≡ 2
StandsFor operation context (by_direct_switch x) = (operation ≡ 3) × (x ≡ context)

-- m is the image before the call and m' the image after it. An accepted decision on a tidy machine leaves what demand 3 asks, if no wake-up
-- that it serves names a context queued on another CPU
pub record DemandMet (m m' : List ℕ) (operation cpu time context refusal : ℕ) : Type 0 where
  pub met : (call : Call) → StandsFor operation context call → refusal ≡ 0 → Tidy (decode m) → decides cpu time (decode m) call ≡ true
      → ServesOwn cpu time (decode m) → Demand3 cpu time (decode m) (decode m')
