-- Document 01's number of each status. Assumes nothing.
use Rattle.std.specs.Prelude.{ℕ, zero, suc, ◌≤◌, ◌≡◌, refl, ◌≢◌, Bool, true, false}
use Rattle.std.proofs.Common.{arith}
use Rattle.context.specs.declared.Status.{Status}
use Rattle.context.specs.declared.Status.TheVariants.{Runnable, Blocked, Stopped, AwaitingMmap, NotYetStarted, Dead}

abbrev pub status_number : Status → ℕ
status_number Runnable = 0
status_number Blocked = 1
status_number Stopped = 2
status_number AwaitingMmap = 3
status_number NotYetStarted = 4
status_number Dead = 5

-- the status of a number; only 0 to 5 are in range
unfoldable pub status_of : ℕ → Status
status_of zero = Runnable
status_of (suc zero) = Blocked
status_of (suc (suc zero)) = Stopped
status_of (suc (suc (suc zero))) = AwaitingMmap
status_of (suc (suc (suc (suc zero)))) = NotYetStarted
status_of (suc (suc (suc (suc (suc n))))) = Dead

pub status_back : (s : Status) → status_of (status_number s) ≡ s
unfolding status_of
status_back Runnable = refl
status_back Blocked = refl
status_back Stopped = refl
status_back AwaitingMmap = refl
status_back NotYetStarted = refl
status_back Dead = refl

abbrev pub is_runnable : Status → Bool
is_runnable Runnable = true
is_runnable Blocked = false
is_runnable Stopped = false
is_runnable AwaitingMmap = false
is_runnable NotYetStarted = false
is_runnable Dead = false

abbrev pub is_soft_blocked : Status → Bool
is_soft_blocked Runnable = false
is_soft_blocked Blocked = true
is_soft_blocked Stopped = false
is_soft_blocked AwaitingMmap = false
is_soft_blocked NotYetStarted = false
is_soft_blocked Dead = false

pub status_of_rest : (x : ℕ) → x ≢ 0 → x ≢ 1 → x ≢ 2 → x ≢ 3 → x ≢ 4 → status_of x ≡ Dead
unfolding status_of
status_of_rest zero a b c d e = absurd (a refl)
status_of_rest (suc zero) a b c d e = absurd (b refl)
status_of_rest (suc (suc zero)) a b c d e = absurd (c refl)
status_of_rest (suc (suc (suc zero))) a b c d e = absurd (d refl)
status_of_rest (suc (suc (suc (suc zero)))) a b c d e = absurd (e refl)
status_of_rest (suc (suc (suc (suc (suc n))))) a b c d e = refl

-- in range, the number of the status of a number is that number
pub status_forth : (x : ℕ) → x ≤ 5 → status_number (status_of x) ≡ x
unfolding status_of
status_forth zero h = refl
status_forth (suc zero) h = refl
status_forth (suc (suc zero)) h = refl
status_forth (suc (suc (suc zero))) h = refl
status_forth (suc (suc (suc (suc zero)))) h = refl
status_forth (suc (suc (suc (suc (suc n))))) h = let e : n ≡ 0 = omega arith in rw e
