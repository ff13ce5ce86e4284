-- A number is that of its bytes. Assumes nothing.
use mathlib.Core.Path.{◌≡◌, refl, ap}
use Prim.Native.Nat.{ℕ, zero, suc, ◌+◌, ◌*◌, ◌/◌, ◌<◌}
use native.Mathlib.Omega.{arith}
use mathlib.Core.List.{List}
use lib.ListN.{length, get_or, drop, drop_of_length-le}
use lib.Seq.{drop-cons}
use Rattle.le_bytes.specs.LeBytes.{from_le_bytes, to_le_bytes}

pub length_le_bytes : (n x : ℕ) → length (to_le_bytes n x) ≡ n
unfolding to_le_bytes
length_le_bytes zero x = refl
length_le_bytes (suc n) x = ap suc (length_le_bytes n (x / 256))

from_next : (b : List ℕ) (j : ℕ) → j < length b → from_le_bytes (drop j b) ≡ get_or b j 0 + 256 * from_le_bytes (drop (suc j) b)
unfolding from_le_bytes
from_next b j h = rw (drop-cons b j 0 h)

pub from_eight : (b : List ℕ) → length b ≡ 8
    → from_le_bytes b
    ≡ get_or b 0 0 + 256 * (get_or b 1 0 + 256 * (get_or b 2 0 + 256 * (get_or b 3 0 + 256 * (get_or b 4 0 + 256 * (get_or b 5 0 + 256 * (get_or b 6 0 + 256 * get_or b 7 0))))))
unfolding from_le_bytes
from_eight b l =
    let z : from_le_bytes (drop 8 b) ≡ 0 = rw (drop_of_length-le b {i = 8} (omega arith))
    in omega
    (arith, z, from_next b 0 (omega arith), from_next b 1 (omega arith), from_next b 2 (omega arith), from_next b 3 (omega arith), from_next b 4 (omega arith), from_next b 5 (omega arith), from_next b 6 (omega arith), from_next b 7 (omega arith))
