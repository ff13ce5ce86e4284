use Rattle.image_structure.specs.Structure.{id_of, is_new}
use Rattle.columns.specs.Common.{every}
use lib.ListN.{length, get_or}
use Prim.Native.Nat.{ℕ, ◌<◌, ◌%◌}
use mathlib.Core.Bool.{true, false}
use mathlib.Core.Path.{◌≡◌}
use Rattle.image_structure.proofs.ids.ids_differ.Given as goal

abbrev pub invariant-loop-y : goal.invariant-loop-y
invariant-loop-y l = (length l.seen ≡ 64) × ((x : ℕ) → x < l.y → get_or l.seen (id_of l.m x % 64) false ≡ true) × (every (is_new l.m) l.y ≡ true)
