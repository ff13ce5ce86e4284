use Rattle.image_structure.specs.Structure.{id_of}
use Rattle.columns.specs.Common.{every}
use lib.ListN.{get_or}
use lib.Dec.{eqb}
use Prim.Native.Nat.{ℕ, ◌+◌, ◌≤◌}
use mathlib.Core.Bool.{true}
use mathlib.Core.Path.{◌≡◌}
use Rattle.percpu.specs.Places.{key_ctxt_id_column, entry_context_ref_column}
use Rattle.image_structure.proofs.entry_ids.Given as goal

abbrev pub invariant-loop-i : goal.invariant-loop-i
invariant-loop-i l = (l.k ≡ get_or l.b 21 0) × (l.k ≤ 64) × (every (λ (j : ℕ). eqb (get_or l.b (key_ctxt_id_column + j) 0) (id_of l.m (get_or l.b (entry_context_ref_column + j) 0))) l.i ≡ true)
