-- What the wake-up stage asks of the values that grow: virtual times at most b, the total weight at most w. Assumes nothing.
use Rattle.std.specs.Prelude.{◌≡◌, List, ℕ, ◌<◌, ◌≤◌}
use Rattle.columns.specs.Common.{All}
use Rattle.context.specs.declared.Context.{Context}
use Rattle.machine.specs.Machine.{Machine, context_at}
use Rattle.machine.specs.Encode.{encode}
use Rattle.machine.specs.Shape.{ContextFits, Fits}
use Rattle.model.specs.State.{State, state_of}
use Rattle.model.specs.Wakeup as definition
use Rattle.wakeup_judge.specs.declared.WakeupResult.{WakeupResult}
use Rattle.wakeup_judge.specs.declared.WakeupResult.TheVariants.{Dropped, Locked, WokenOnly, Entered}
use Rattle.numbers.specs.Limits.{max_number}

-- of a state of n contexts
pub record Slow (n b w : ℕ) (s : State) : Type 0 where
  pub vtime : (x : ℕ) → x < n → (context_at s.contexts x).vtime ≤ b
  pub v : s.cpu.block.v ≤ b
  pub total_weight : s.cpu.block.total_weight ≤ w

-- of the image, on CPU k
pub record Paced (c n k b w : ℕ) (m : List ℕ) : Type 0 where
  pub M : Machine
  pub eq : m ≡ encode M
  pub fits : Fits c n M
  pub slow : Slow n b w (state_of k M)

-- a record that may be stored, and may enter
pub record RecordFits (c : ℕ) (q : Context) : Type 0 where
  pub fits : ContextFits c q
  pub vtime : q.vtime ≤ max_number

abbrev pub ResultFits : ℕ → WakeupResult → Type 0
ResultFits c Dropped = Unit {0}
ResultFits c Locked = Unit {0}
ResultFits c (WokenOnly q) = RecordFits c q
ResultFits c (Entered q) = RecordFits c q

-- every wake-up names a context
abbrev pub Named : ℕ → List definition.Wakeup → Type 0
Named n l = All (λ (w : definition.Wakeup). w.context_ref < n) l
