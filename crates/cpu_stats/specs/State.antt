-- Document 01's number of each state. Assumes nothing.
use Rattle.std.specs.Prelude.{ℕ, zero, suc, ◌≤◌, ◌≡◌, refl, Bool, true, false}
use Rattle.std.proofs.Common.{arith}
use Rattle.cpu_stats.specs.declared.CpuState.{CpuState}
use Rattle.cpu_stats.specs.declared.CpuState.TheVariants.{Idle, Kernel, User}

abbrev pub state_number : CpuState → ℕ
state_number Idle = 0
state_number Kernel = 1
state_number User = 2

-- the state of a number; only 0 to 2 are in range
unfoldable pub state_of : ℕ → CpuState
state_of zero = Idle
state_of (suc zero) = Kernel
state_of (suc (suc n)) = User

pub state_back : (s : CpuState) → state_of (state_number s) ≡ s
unfolding state_of
state_back Idle = refl
state_back Kernel = refl
state_back User = refl

abbrev pub is_idle_state : CpuState → Bool
is_idle_state Idle = true
is_idle_state Kernel = false
is_idle_state User = false

-- in range, the number of the state of a number is that number
pub state_forth : (x : ℕ) → x ≤ 2 → state_number (state_of x) ≡ x
unfolding state_of
state_forth zero h = refl
state_forth (suc zero) h = refl
state_forth (suc (suc n)) h = let e : n ≡ 0 = omega arith in rw e
