-- What a set contains after one CPU was put in or taken out. Assumes nothing.
use mathlib.Core.Path.{◌≡◌, sym, ap, ◌∙◌}
use mathlib.Core.Bool.{Bool, true, not, ◌&&◌, ◌||◌}
use Prim.Native.Nat.{ℕ, zero, suc, ◌+◌, ◌-◌, ◌/◌, ◌%◌, ◌^◌, ◌<◌, max, min}
use native.Mathlib.Omega.{arith}
use native.Mathlib.Nat.{pow-suc, div-eq_of_lt}
use lib.Dec.{ltb, eqb}
use lib.Bits.{bit_and, bit_or, or_shr, and_shr, or_step, and_step}
use lib.Pow.{pow-lt, pow-add, shl-shr}
use borrow.Author.Tests.{ltb-true, ltb-false, eq-eqb, ne_eqb}
use Rattle.columns.proofs.Tests.{by_test}
use Rattle.cpu_set.specs.Set.{contains}
use Rattle.cpu_set.specs.Members.{with_cpu, without_cpu}
use Rattle.cpu_set.proofs.Members.{by_digit, first_test, next_test}

module _ (x y : ℕ) where
  or_digit : eqb (bit_or x y % 2) 1 ≡ (eqb (x % 2) 1 || eqb (y % 2) 1)
  or_digit =
      let d : bit_or x y % 2 ≡ max (x % 2) (y % 2) = omega (arith, or_step x y)
      in rw d (by_digit x (λ s. by_digit y (λ t. rw (s, t)) (λ t. rw (s, t))) (λ s. by_digit y (λ t. rw (s, t)) (λ t. rw (s, t))))

  and_digit : eqb (bit_and x y % 2) 1 ≡ (eqb (x % 2) 1 && eqb (y % 2) 1)
  and_digit =
      let d : bit_and x y % 2 ≡ min (x % 2) (y % 2) = omega (arith, and_step x y)
      in rw d (by_digit x (λ s. by_digit y (λ t. rw (s, t)) (λ t. rw (s, t))) (λ s. by_digit y (λ t. rw (s, t)) (λ t. rw (s, t))))

module _ (a b k : ℕ) where
  contains_or : contains (bit_or a b) k ≡ (contains a k || contains b k)
  contains_or = ap (λ (n : ℕ). eqb (n % 2) 1) (or_shr a b k) ∙ or_digit (a / 2 ^ k) (b / 2 ^ k)

  contains_and : contains (bit_and a b) k ≡ (contains a k && contains b k)
  contains_and = ap (λ (n : ℕ). eqb (n % 2) 1) (and_shr a b k) ∙ and_digit (a / 2 ^ k) (b / 2 ^ k)

-- one bit
quotient : (d k : ℕ) → 2 ^ (d + k) / 2 ^ k ≡ 2 ^ d
quotient d k = ap (λ (n : ℕ). n / 2 ^ k) (pow-add 2 d k) ∙ shl-shr (2 ^ d) k

contains_power : (c k : ℕ) → contains (2 ^ c) k ≡ eqb c k
contains_power c k = by_test (ltb c k) above (λ t. below (c - k) (omega (arith, ltb-false c k t)))
  where
    above : ltb c k ≡ true → contains (2 ^ c) k ≡ eqb c k
    above t = rw (div-eq_of_lt (pow-lt (ltb-true c k t)), ne_eqb c k (λ e. omega (arith, ltb-true c k t)))

    below : (d : ℕ) → c ≡ d + k → contains (2 ^ c) k ≡ eqb c k
    below zero e =
        let q : 2 ^ c / 2 ^ k ≡ 1 = ap (λ (n : ℕ). 2 ^ n / 2 ^ k) e ∙ quotient 0 k
        in rw (q, eq-eqb c k (omega arith))
    below (suc d) e =
        let q : 2 ^ c / 2 ^ k ≡ 2 ^ suc d = ap (λ (n : ℕ). 2 ^ n / 2 ^ k) e ∙ quotient (suc d) k
        in let z : 2 ^ suc d % 2 ≡ 0 = omega (arith, pow-suc 2 d)
        in rw (q, z, ne_eqb c k (λ g. omega arith))

-- the other bits of a word of w
contains_other : (w k a : ℕ) → a < 2 ^ w → k < w → contains (2 ^ w - 1 - a) k ≡ not (contains a k)
contains_other zero k a h g = absurd (omega arith)
contains_other (suc w) zero a h g =
    let p = pow-suc 2 w
    in let d : (2 ^ suc w - 1 - a) % 2 ≡ 1 - a % 2 = omega arith
    in rw (first_test (2 ^ suc w - 1 - a), first_test a, d) (by_digit a (λ t. rw t) (λ t. rw t))
contains_other (suc w) (suc k) a h g =
    let p = pow-suc 2 w
    in let d : (2 ^ suc w - 1 - a) / 2 ≡ 2 ^ w - 1 - a / 2 = omega arith
    in next_test (2 ^ suc w - 1 - a) k ∙ ap (λ (n : ℕ). contains n k) d ∙ contains_other w k (a / 2) (omega arith) (omega arith) ∙ sym (ap not (next_test a k))

module _ (mask cpu k : ℕ) where
  pub contains_set : contains (with_cpu mask cpu) k ≡ (contains mask k || eqb cpu k)
  contains_set = contains_or mask (2 ^ cpu) k ∙ ap (λ (b : Bool). contains mask k || b) (contains_power cpu k)

  pub contains_clear : cpu < 64 → k < 64 → contains (without_cpu mask cpu) k ≡ (contains mask k && not (eqb cpu k))
  contains_clear c h =
      contains_and mask (18446744073709551615 - 2 ^ cpu) k
      ∙ ap (λ (b : Bool). contains mask k && b) (contains_other 64 k (2 ^ cpu) (pow-lt c) h ∙ ap not (contains_power cpu k))
