-- Choosing by a test, marks, folds and tests over a list. Assumes nothing.
use Rattle.std.specs.Prelude.{Bool, true, false, ◌&&◌, List, [], ◌∷◌, ◌⊎◌, ◌≡◌, refl, ℕ, zero, suc, eqb, if◌then◌else◌}

-- a mark's word
abbrev pub mark : Bool → ℕ
mark true = 1
mark false = 0

module _ {A B : Type 0} where
  -- a state goes through a list, from its head
  abbrev pub fold : (B → A → B) → B → List A → B
  fold f b [] = b
  fold f b (x ∷ xs) = fold f (f b x) xs

module _ {A : Type 0} where
  -- the items that pass a test, in their order
  abbrev pub keep : (A → Bool) → List A → List A
  keep p [] = []
  keep p (x ∷ xs) = if p x then x ∷ keep p xs else keep p xs

  -- every item is such
  abbrev pub All : (A → Type 0) → List A → Type 0
  All P [] = Unit {0}
  All P (x ∷ xs) = P x × All P xs

  -- an item of the list
  abbrev pub In : A → List A → Type 0
  In a [] = ⊥
  In a (x ∷ xs) = (a ≡ x) ⊎ In a xs

  abbrev pub is_empty : List A → Bool
  is_empty [] = true
  is_empty (x ∷ xs) = false

-- f of 0, 1, .., n - 1
unfoldable pub tabulate : {A : Type 0} → ℕ → (ℕ → A) → List A
tabulate zero f = []
tabulate (suc n) f = f zero ∷ tabulate n (λ (i : ℕ). f (suc i))

-- every number below n passes the test
unfoldable pub every : (ℕ → Bool) → ℕ → Bool
every f zero = true
every f (suc n) = every f n && f n

pub mark_back : (b : Bool) → eqb (mark b) 1 ≡ b
mark_back true = refl
mark_back false = refl
