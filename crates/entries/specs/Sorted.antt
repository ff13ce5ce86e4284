-- Strictly rising in an order. Assumes nothing.
use Rattle.std.specs.Prelude.{◌≡◌, Bool, true, List, [], ◌∷◌}
use Rattle.columns.specs.Common.{All}

module _ {A : Type 0} (lt : A → A → Bool) where
  abbrev pub Sorted : List A → Type 0
  Sorted [] = Unit {0}
  Sorted (x ∷ xs) = All (λ y. lt x y ≡ true) xs × Sorted xs
