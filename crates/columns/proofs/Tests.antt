-- Tests and what they say: cases on a Bool, and a test of every number below n. Assumes nothing.
use Rattle.std.specs.Prelude.{if◌then◌else◌}
use mathlib.Core.Path.{◌≡◌, refl, sym, subst}
use mathlib.Core.Bool.{Bool, true, false, ◌&&◌}
use Prim.Native.Nat.{ℕ, zero, suc, ◌+◌, ◌<◌, ◌≤◌}
use native.Mathlib.Omega.{arith}
use native.Mathlib.Numerals.{add-one}
use lib.Dec.{ltb}
use borrow.Author.Tests.{ltb-true, ltb-false}
use Rattle.columns.specs.Common.{every}

pub by_test {ℓ} : {C : Type ℓ} (b : Bool) → (b ≡ true → C) → (b ≡ false → C) → C
by_test true f g = f refl
by_test false f g = g refl

pub clash : {C : Type 0} {b : Bool} → b ≡ true → b ≡ false → C
clash p q = let z : ◌≡◌ {A = ℕ} 0 1 = cc in absurd (omega arith)

pub never {ℓ} : {C : Type ℓ} → true ≡ false → C
never e = let z : ◌≡◌ {A = ℕ} 0 1 = cc in absurd (omega arith)

pub and_both : (a b : Bool) → (a && b) ≡ true → (a ≡ true) × (b ≡ true)
and_both true b e = (refl, e)
and_both false b e = let z : ◌≡◌ {A = ℕ} 0 1 = cc in absurd (omega arith)

pub and_no : (a b : Bool) → b ≡ false → (a && b) ≡ false
and_no true b e = e
and_no false b e = refl

pub every_at : (f : ℕ → Bool) (n i : ℕ) → every f n ≡ true → i < n → f i ≡ true
unfolding every
every_at f zero i e h = absurd (omega arith)
every_at f (suc n) i e h =
    let p = and_both (every f n) (f n) e
    in by_test (ltb i n) (λ t. every_at f n i p.0 (ltb-true i n t)) (λ t. let g : n ≤ i = ltb-false i n t in let q : n ≡ i = omega arith in subst (λ k. f k ≡ true) q p.1)

pub every_no : (f : ℕ → Bool) (n i : ℕ) → i < n → f i ≡ false → every f n ≡ false
unfolding every
every_no f zero i h e = absurd (omega arith)
every_no f (suc n) i h e =
    by_test (ltb i n) (λ t. rw (every_no f n i (ltb-true i n t) e)) (λ t. let g : n ≤ i = ltb-false i n t in let q : i ≡ n = omega arith in and_no (every f n) (f n) (subst (λ k. f k ≡ false) q e))

pub every_next : (f : ℕ → Bool) (i : ℕ) → every f i ≡ true → f i ≡ true → every f (i + 1) ≡ true
unfolding every
every_next f i e h = rw (add-one i, e, h)

pub every_none : (f : ℕ → Bool) → every f 0 ≡ true
unfolding every
every_none f = refl

pub every_end : (f : ℕ → Bool) (n i : ℕ) → n ≤ i → i ≤ n → every f i ≡ true → true ≡ every f n
every_end f n i h g e = let q : i ≡ n = omega arith in sym (rw q at e)

-- a test that fails ends the chain of refusals: the first number that is not 0
pub past : (b : Bool) (x y : ℕ) → (x ≡ 0 → ⊥) → if b then x else y ≡ 0 → (b ≡ false) × (y ≡ 0)
past true x y n e = absurd (n e)
past false x y n e = (refl, e)
