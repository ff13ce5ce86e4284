-- Words from 2 on stand for the last state. Assumes nothing.
use mathlib.Core.Path.{◌≡◌, refl}
use Prim.Native.Nat.{ℕ, zero, suc, ◌≤◌}
use native.Mathlib.Omega.{arith}
use Rattle.cpu_stats.specs.declared.CpuState.TheVariants.{User}
use Rattle.cpu_stats.specs.State.{state_of}

pub from_two : (n : ℕ) → 2 ≤ n → state_of n ≡ User
unfolding state_of
from_two zero h = absurd (omega arith)
from_two (suc zero) h = absurd (omega arith)
from_two (suc (suc n)) h = refl
