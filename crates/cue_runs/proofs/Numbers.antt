-- A number that is stored is read again. Assumes nothing.
use mathlib.Core.Path.{◌≡◌}
use Prim.Native.Nat.{ℕ, zero, suc, ◌*◌, ◌/◌, ◌<◌}
use native.Mathlib.Omega.{arith}
use Rattle.numbers.specs.Limits.{word_range}
use Rattle.le_bytes.specs.LeBytes.{from_le_bytes, to_le_bytes}

-- how many numbers n bytes hold
held : ℕ → ℕ
held zero = 1
held (suc n) = 256 * held n

from_to : (n x : ℕ) → x < held n → from_le_bytes (to_le_bytes n x) ≡ x
unfolding from_le_bytes to_le_bytes held
from_to zero x h = omega arith
from_to (suc n) x h =
    let e : from_le_bytes (to_le_bytes n (x / 256)) ≡ x / 256 = from_to n (x / 256) (omega arith)
    in rw e (omega arith)

pub number_again : (x : ℕ) → x < word_range → from_le_bytes (to_le_bytes 8 x) ≡ x
unfolding held
number_again x h = from_to 8 x h
