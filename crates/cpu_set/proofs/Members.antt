-- Going through a set by its lowest bit gives its CPUs in rising order, each once. Assumes nothing.
use Rattle.std.specs.Prelude.{if◌then◌else◌}
use mathlib.Core.Path.{◌≡◌, refl, sym, ap, ◌∙◌}
use mathlib.Core.Bool.{Bool}
use mathlib.Core.List.{List, [], ◌∷◌}
use Prim.Native.Nat.{ℕ, zero, suc, ◌+◌, ◌-◌, ◌*◌, ◌/◌, ◌%◌, ◌^◌, ◌<◌, ◌≤◌}
use native.Mathlib.Omega.{arith}
use native.Mathlib.Nat.{add-zero, zero-add, add_comm, add-suc, suc-add, pow-suc, one-mul, div-one, div-div-eq-div-mul, mul_comm}
use native.Mathlib.Numerals.{add-one}
use lib.Dec.{eqb}
use lib.ListN.{length}
use lib.Pow.{pow_pos, shl_exact}
use lib.Count.{count_trailing_zeros, ones, ones_in, ones_step}
use borrow.Author.Tests.{eq-eqb, ne_eqb, eqb-true, eqb-false}
use Rattle.columns.specs.Common.{keep, tabulate}
use Rattle.columns.proofs.Tests.{by_test}
use Rattle.cpu_set.specs.Set.{contains}
use Rattle.cpu_set.specs.Members.{members, next_cpu, rest_cpus}

-- the members by the digits of a number, of which k are looked at and the lowest is CPU i
digits : ℕ → ℕ → ℕ → List ℕ
digits i zero n = []
digits i (suc k) n = if eqb (n % 2) 1 then i ∷ digits (suc i) k (n / 2) else digits (suc i) k (n / 2)

-- by the lowest digit
pub by_digit {ℓ} : {C : Type ℓ} (n : ℕ) → (n % 2 ≡ 1 → C) → (n % 2 ≡ 0 → C) → C
by_digit n f g = by_test (eqb (n % 2) 1) (λ t. f (eqb-true (n % 2) 1 t)) (λ t. g (omega (arith, eqb-false (n % 2) 1 t)))

module _ (i k n : ℕ) where
  odd : n % 2 ≡ 1 → digits i (suc k) n ≡ i ∷ digits (suc i) k (n / 2)
  unfolding digits
  odd h = rw (eq-eqb (n % 2) 1 h)

  even : n % 2 ≡ 0 → digits i (suc k) n ≡ digits (suc i) k (n / 2)
  unfolding digits
  even h = rw (ne_eqb (n % 2) 1 (λ e. omega arith))

module _ (k n : ℕ) where
  zeros_odd : n % 2 ≡ 1 → count_trailing_zeros (suc k) n ≡ 0
  unfolding count_trailing_zeros
  zeros_odd h = rw h

  zeros_even : n % 2 ≡ 0 → count_trailing_zeros (suc k) n ≡ suc (count_trailing_zeros k (n / 2))
  unfolding count_trailing_zeros
  zeros_even h = rw h

-- the lowest bit
pub lowest : (k n : ℕ) → 0 < n → n < 2 ^ k → (2 ^ count_trailing_zeros k n ≤ n) × (count_trailing_zeros k n < k)
lowest zero n p h = absurd (omega arith)
lowest (suc k) n p h =
    by_digit n (λ t. rw (zeros_odd k n t) (omega arith, omega arith))
    (λ t. let r = lowest k (n / 2) (omega arith) (omega (arith, pow-suc 2 k)) in
    rw (zeros_even k n t) (omega (arith, pow-suc 2 (count_trailing_zeros k (n / 2))), omega arith))

step : (i k n : ℕ) → 0 < n → n < 2 ^ k → digits i k n ≡ (i + count_trailing_zeros k n) ∷ digits i k (n - 2 ^ count_trailing_zeros k n)
step i zero n p h = absurd (omega arith)
step i (suc k) n p h =
    by_digit n
    (λ t. let z : (n - 1) / 2 ≡ n / 2 = omega arith in
    odd i k n t ∙ rw (zeros_odd k n t, add-zero i, even i k (n - 1) (omega arith), z))
    (λ t. let t' = count_trailing_zeros k (n / 2) in
    let w = pow-suc 2 t' in
    let r = lowest k (n / 2) (omega arith) (omega (arith, pow-suc 2 k)) in
    let m : n - 2 ^ suc t' ≡ (n / 2 - 2 ^ t') * 2 = omega arith in
    let e : (n - 2 ^ suc t') % 2 ≡ 0 = omega arith in
    let d : (n - 2 ^ suc t') / 2 ≡ n / 2 - 2 ^ t' = omega arith in
    even i k n t ∙ step (suc i) k (n / 2) (omega arith) (omega (arith, pow-suc 2 k))
    ∙ rw (zeros_even k n t, even i k (n - 2 ^ suc t') e, d, suc-add i t', add-suc i t'))

nothing : (i k : ℕ) → digits i k 0 ≡ []
unfolding digits
nothing i zero = refl
nothing i (suc k) = nothing (suc i) k

no_digits : (i n : ℕ) → digits i 0 n ≡ []
unfolding digits
no_digits i n = refl

ones_zero : ones 0 ≡ 0
unfolding ones ones_in
ones_zero = refl

counts : (i k n : ℕ) → n < 2 ^ k → ones n ≡ length (digits i k n)
counts i zero n h = let z : n ≡ 0 = omega arith in ap ones z ∙ ones_zero ∙ sym (ap length (no_digits i n))
counts i (suc k) n h =
    let r = counts (suc i) k (n / 2) (omega (arith, pow-suc 2 k)) in
    by_digit n (λ t. rw (ones_step n, t, odd i k n t) (add_comm 1 _ ∙ add-one _ ∙ ap suc r)) (λ t. rw (ones_step n, t, even i k n t) (zero-add _ ∙ r))

-- the definition by its tests, digit by digit
pub first_test : (n : ℕ) → contains n 0 ≡ eqb (n % 2) 1
first_test n = ap (λ (x : ℕ). eqb (x % 2) 1) (div-one n)

pub next_test : (n j : ℕ) → contains n (suc j) ≡ contains (n / 2) j
next_test n j = ap (λ (x : ℕ). eqb (x % 2) 1) (ap (λ (x : ℕ). n / x) (pow-suc 2 j ∙ mul_comm (2 ^ j) 2) ∙ sym (div-div-eq-div-mul n 2 (2 ^ j)))

kept : (i k n : ℕ) (g : ℕ → Bool) (f : ℕ → ℕ) → ((j : ℕ) → f j ≡ i + j) → ((j : ℕ) → g (i + j) ≡ contains n j) → keep g (tabulate k f) ≡ digits i k n
unfolding tabulate digits
kept i zero n g f hf hg = refl
kept i (suc k) n g f hf hg =
    let here : f 0 ≡ i = hf 0 ∙ add-zero i
    in let test : g (f 0) ≡ eqb (n % 2) 1 = ap g (hf 0) ∙ hg 0 ∙ first_test n
    in let more = kept (suc i) k (n / 2) g (λ (j : ℕ). f (suc j)) (λ j. hf (suc j) ∙ add-suc i j ∙ sym (suc-add i j)) (λ j. ap g (suc-add i j ∙ sym (add-suc i j)) ∙ hg (suc j) ∙ next_test n j)
    in λ a. if test a then here a ∷ more a else more a

module _ (mask : ℕ) where
  members_are : members mask ≡ digits 0 64 mask
  unfolding members
  members_are = kept 0 64 mask (contains mask) (λ (i : ℕ). i) (λ j. sym (zero-add j)) (λ j. ap (contains mask) (zero-add j))

  pub members_count : mask < 18446744073709551616 → ones mask ≡ length (members mask)
  members_count h = counts 0 64 mask h ∙ sym (ap length members_are)

-- the loop's step: the next CPU comes first, and then those of the rest; no CPU is left where the word is 0
pub members_step : (mask : ℕ) → 0 < mask → mask < 18446744073709551616 → members mask ≡ next_cpu mask ∷ members (rest_cpus mask)
unfolding next_cpu rest_cpus
members_step mask p h =
    members_are mask ∙ step 0 64 mask p h
    ∙ (λ a. zero-add (count_trailing_zeros 64 mask) a ∷ sym (members_are (mask - 2 ^ count_trailing_zeros 64 mask)) a)

pub members_none : members 0 ≡ []
members_none = members_are 0 ∙ nothing 0 64

-- a one shifted to its CPU stays in the word
pub one_at : (c : ℕ) → c < 64 → (1 * 2 ^ c) % 18446744073709551616 ≡ 2 ^ c
one_at c h = shl_exact {a = 1} 1 c 64 (omega arith) (omega arith) ∙ one-mul (2 ^ c)

-- the lowest bit r taken off, as the code has it
module _ (mask r : ℕ) (hr : r ≡ next_cpu mask) (b : r < 64) (p : 0 < mask) (h : mask < 18446744073709551616) where
  abbrev bit : ℕ
  bit = (1 * 2 ^ r) % 18446744073709551616

  bit_is : bit ≡ 2 ^ next_cpu mask
  bit_is = one_at r b ∙ ap (λ (k : ℕ). 2 ^ k) hr

  pub bit_low : bit ≤ mask
  unfolding next_cpu
  bit_low = rw bit_is (lowest 64 mask p h).0

  pub rest_is : (mask - bit ≡ rest_cpus mask) × (mask - bit < mask)
  unfolding next_cpu rest_cpus
  rest_is =
      let l = (lowest 64 mask p h).0
      in let z : 0 < 2 ^ count_trailing_zeros 64 mask = pow_pos (count_trailing_zeros 64 mask)
      in (ap (λ (x : ℕ). mask - x) bit_is, rw bit_is (omega arith))
