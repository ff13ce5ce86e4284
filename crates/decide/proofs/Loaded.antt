-- Words stored one by one: where those below i are f of their places. Assumes nothing.
use mathlib.Core.Path.{◌≡◌, sym, ap, ◌∙◌}
use Prim.Native.Nat.{ℕ, ◌<◌, ◌≤◌}
use native.Mathlib.Omega.{arith}
use mathlib.Core.List.{List}
use lib.ListN.{length, get_or}
use Rattle.columns.specs.Common.{tabulate}
use Rattle.columns.proofs.Tabulate.{tabulate_is}

pub all_of_them : (f : ℕ → ℕ) (l : List ℕ) (n i : ℕ) → length l ≡ n → n ≤ i → ((j : ℕ) → j < i → get_or l j 0 ≡ f j) → l ≡ tabulate n f
all_of_them f l n i e h g = sym (tabulate_is 0 l f (λ j b. sym (g j (omega arith)))) ∙ ap (λ (k : ℕ). tabulate k f) e
