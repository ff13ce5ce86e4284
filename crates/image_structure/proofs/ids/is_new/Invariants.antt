use Rattle.image_structure.specs.Structure.{id_of}
use Rattle.columns.specs.Common.{every}
use lib.Dec.{eqb}
use Prim.Native.Nat.{ℕ}
use mathlib.Core.Bool.{true, not}
use mathlib.Core.Path.{◌≡◌}
use Rattle.image_structure.proofs.ids.is_new.Given as goal

abbrev pub invariant-loop-x : goal.invariant-loop-x
invariant-loop-x l = every (λ (z : ℕ). not (eqb (id_of l.m z) (id_of l.m l.y))) l.x ≡ true
