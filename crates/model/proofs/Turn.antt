-- A turn: the CPU and the time of a decision, the machine, and what demand 3 assumes of them.
use Prim.Native.Nat.{ℕ}
use Rattle.machine.specs.Machine.{Machine}
use Rattle.model.specs.Tidy.{Sound, Tidy, Present}
use Rattle.model.specs.Accepted.{ServesOwn}

pub record Turn : Type 0 where
  pub k : ℕ
  pub time : ℕ
  pub M : Machine
  pub sound : Sound M
  pub tidy : Tidy M
  pub present : Present M k
  pub own : ServesOwn k time M
