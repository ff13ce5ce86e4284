-- The items in any order have the same sum. Assumes nothing.
use mathlib.Core.Path.{◌≡◌, refl, sym, ◌∙◌}
use mathlib.Core.Logic.{∥∥₁_elim}
use mathlib.Core.List.{List, Permᴰ, Perm}
use Prim.Native.Nat.{ℕ, ◌+◌}
use native.Mathlib.Omega.{arith}
use native.Mathlib.Nat.{ℕ_set}
use Rattle.machine.specs.Machine.{Machine, cpu_at}
use Rattle.total_weight.specs.TotalWeight.{sum, items_of, total_weight_of}

derived : {l m : List ℕ} → Permᴰ l m → sum l ≡ sum m
derived Permᴰ.nil = refl
derived (Permᴰ.cons {l₁ = l} {l₂ = m} e p) = let r : sum l ≡ sum m = derived p in omega (arith, e)
derived (Permᴰ.swap e f) = omega (arith, e, f)
derived (Permᴰ.trans p q) = derived p ∙ derived q

pub any_order : {l m : List ℕ} → Perm l m → sum l ≡ sum m
any_order {l} {m} p = ∥∥₁_elim p (ℕ_set (sum l) (sum m)) derived

-- a CPU's items in any order
pub total_in_any_order : (M : Machine) (i : ℕ) (l : List ℕ) → Perm (items_of M.contexts (cpu_at M i)) l → sum l ≡ total_weight_of M i
unfolding total_weight_of
total_in_any_order M i l p = sym (any_order p)
