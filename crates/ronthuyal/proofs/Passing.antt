-- An image that an accepted call left, checked again. Assumes nothing.
use mathlib.Core.Path.{◌≡◌}
use mathlib.Core.Bool.{true}
use mathlib.Core.List.{List}
use Prim.Native.Nat.{ℕ, ◌≤◌}
use native.Mathlib.Omega.{arith}
use lib.Dec.{eqb}
use lib.ListN.{length}
use borrow.Author.Tests.{le-leb, le-ltb, lt-ltb, eq-eqb}
use Rattle.image_structure.specs.Structure.{structure}
use Rattle.image.specs.Refusal.{size_c, size_n, in_bounds, ranges, sized_refusal, image_refusal}
use Rattle.image.specs.Raised.{RaisedAtMost}
use Rattle.image.proofs.Admitted as admitted
use Rattle.model_leaves.proofs.Lowering.{lower}
use Rattle.ronthuyal.specs.Leaves.{Left}
use Rattle.numbers.specs.Limits.{max_number}
use Rattle.machine.specs.Encode.{cpu_place}

-- raised words that are not over 2^62 - 1
pub lowered : {top : ℕ} {m m' : List ℕ} → Left top m m' → RaisedAtMost max_number m' → Left max_number m m'
lowered {top} {m} {m'} l r = record { cpus = l.cpus; contexts = l.contexts; size = l.size; ranges = lower top m' l.ranges r; structured = l.structured }

-- then the image passes again, at any time that is in its range
pub passes_again : (time : ℕ) (m m' : List ℕ) → image_refusal time m ≡ 0 → Left max_number m m' → (later : ℕ) → later ≤ max_number → image_refusal later m' ≡ 0
unfolding image_refusal sized_refusal in_bounds ranges
passes_again time m m' o l later h =
    let p = admitted.passed time m o in
    let c : ℕ = size_c m in
    let n : ℕ = size_n m in
    let s : length m' ≡ cpu_place n c = rw (l.cpus, l.contexts) at l.size in
    let e : eqb (length m') (cpu_place n c) ≡ true = eq-eqb (length m') (cpu_place n c) s in
    let t : structure c n m' ≡ true = rw (l.cpus, l.contexts) at l.structured in
    rw (
      le-ltb (length m') 2 (omega arith),
      l.cpus,
      l.contexts,
      lt-ltb 0 c (omega (arith, p.cpus.0)),
      le-leb c 4 p.cpus.1,
      lt-ltb 0 n (omega (arith, p.names.0)),
      le-leb n 64 p.names.1,
      e,
      le-leb later max_number h,
      l.ranges,
      t,
    )
