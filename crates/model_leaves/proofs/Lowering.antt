-- An image that is in its ranges but for raised words is in its ranges where none of them is over 2^62 - 1. Assumes nothing.
use mathlib.Core.Path.{◌≡◌, refl}
use mathlib.Core.Logic.{◌⊎◌, inl, inr}
use mathlib.Core.Bool.{true, ◌&&◌, ◌||◌}
use mathlib.Core.List.{List, [], ◌∷◌}
use Prim.Native.Nat.{ℕ, ◌+◌, ◌-◌, ◌*◌, ◌<◌, ◌≤◌}
use native.Mathlib.Omega.{arith}
use lib.Dec.{leb, eqb}
use lib.ListN.{get_or}
use borrow.Author.Tests.{eqb-true, eq-eqb, le-leb}
use Rattle.columns.specs.Common.{every, All, In}
use Rattle.columns.specs.Blocks.{part}
use Rattle.columns.proofs.Tests.{by_test, every_at, and_both}
use Rattle.columns.proofs.Tabulate.{part_get}
use Rattle.percpu.specs.Layout.{counter}
use Rattle.machine.specs.Encode.{context_place, cpu_place}
use Rattle.image_ranges.specs.Ranges.{within, context_most_to, context_in_range_to, block_most_to, array_least, array_most_to, used, unused, array_in_range_to, block_in_range_to, contexts_in_range_to, blocks_in_range_to}
use Rattle.image.specs.Refusal.{size_c, size_n, ranges_to}
use Rattle.image.specs.Raised.{context_raised, block_raised, array_raised, RaisedAtMost}
use Rattle.image_ranges.proofs.Checked.{within_at, count_most}
use Rattle.model.specs.Steal.{member}
use Rattle.model.proofs.Cases.{or_either}
use Rattle.model.proofs.Lists.{all_at}
use Rattle.model_leaves.proofs.Words.{every_of}
use Rattle.numbers.specs.Limits.{max_number}
use Rattle.context.specs.Words.{record_size}
use Rattle.percpu.specs.Places.{remainder_place, block_size}
use Rattle.ticks.specs.Ticks.{max_remainder}

member_in : (x : ℕ) (l : List ℕ) → member x l ≡ true → In x l
member_in x [] e = let z : ◌≡◌ {A = ℕ} 0 1 = cc in absurd (omega arith)
member_in x (y ∷ l) e = go (member_in x l) (or_either (eqb x y) (member x l) e)
  where
    go : (member x l ≡ true → In x l) → (eqb x y ≡ true) ⊎ (member x l ≡ true) → In x (y ∷ l)
    go f (inl h) = inl (eqb-true x y h)
    go f (inr h) = inr (f h)

-- t and u differ only where a word may be raised
abbrev Differ : List ℕ → List ℕ → List ℕ → ℕ → Type 0
Differ t u raised k = every (λ (i : ℕ). member i raised || eqb (get_or u i 0) (get_or t i 0)) k ≡ true

lower_within : (t u w raised : List ℕ) (k : ℕ) → Differ t u raised k → within t w k ≡ true → All (λ (i : ℕ). get_or w i 0 ≤ get_or u i 0) raised → within u w k ≡ true
unfolding within
lower_within t u w raised k d o a = every_of _ k (λ i h. le-leb _ _ (go i h (or_either (member i raised) _ (every_at (λ (j : ℕ). member j raised || eqb (get_or u j 0) (get_or t j 0)) k i d h))))
  where
    go : (i : ℕ) → i < k → (member i raised ≡ true) ⊎ (eqb (get_or u i 0) (get_or t i 0) ≡ true) → get_or w i 0 ≤ get_or u i 0
    go i h (inl m) = all_at (λ (j : ℕ). get_or w j 0 ≤ get_or u j 0) raised a i (member_in i raised m)
    go i h (inr e) = rw (eqb-true (get_or u i 0) (get_or t i 0) e) (within_at t w k i o h)

contexts_differ : (top c : ℕ) → Differ (context_most_to top c) (context_most_to max_number c) context_raised record_size
unfolding every context_most_to
contexts_differ top c = rw (eq-eqb c c refl)

lower_context : (top c : ℕ) (w : List ℕ) → context_in_range_to top c w ≡ true → All (λ (i : ℕ). get_or w i 0 ≤ max_number) context_raised → context_in_range_to max_number c w ≡ true
unfolding context_in_range_to context_most_to
lower_context top c w e a =
    by_test (eqb (get_or w 0 0) 1) (λ t. rw t (rw t at e))
    (λ t.
    let p = and_both (within (context_most_to top c) w record_size) _ (rw t at e) in
    rw (t, lower_within (context_most_to top c) (context_most_to max_number c) w context_raised record_size (contexts_differ top c) p.0 a, p.1))

blocks_differ : (top n : ℕ) → Differ (block_most_to top n) (block_most_to max_number n) block_raised 25
unfolding every block_most_to
blocks_differ top n = rw (eq-eqb (n - 1) (n - 1) refl)

arrays_differ : (top n : ℕ) → Differ (array_most_to top n) (array_most_to max_number n) array_raised 10
unfolding every array_most_to
arrays_differ top n = rw (eq-eqb (n - 1) (n - 1) refl)

module _ (top n : ℕ) (b : List ℕ) (a : All (λ (j : ℕ). (i : ℕ) → i < 64 → get_or b (25 + 64 * j + i) 0 ≤ max_number) array_raised) where
  -- the greatest of a raised array
  top_is : (j : ℕ) → In j array_raised → get_or (array_most_to max_number n) j 0 ≡ max_number
  unfolding array_most_to
  top_is j (inl e) = rw e
  top_is j (inr (inl e)) = rw e
  top_is j (inr (inr e)) = absurd e

  lower_used : (j : ℕ) → In j array_raised → get_or b (get_or counter j 0) 0 ≤ 64 → array_in_range_to top n b j ≡ true → array_in_range_to max_number n b j ≡ true
  unfolding array_in_range_to used
  lower_used j i k e =
      let l : List ℕ = part b (25 + 64 * j) 64 in
      let p = and_both _ (unused l (get_or b (get_or counter j 0) 0)) e in
      let d : every (λ (x : ℕ). leb (get_or array_least j 0) (get_or l x 0) && leb (get_or l x 0) (get_or (array_most_to max_number n) j 0)) (get_or b (get_or counter j 0) 0) ≡ true =
      every_of _ (get_or b (get_or counter j 0) 0)
      (λ x h.
      let q = and_both (leb (get_or array_least j 0) (get_or l x 0)) _
      (every_at (λ (x : ℕ). leb (get_or array_least j 0) (get_or l x 0) && leb (get_or l x 0) (get_or (array_most_to top n) j 0)) (get_or b (get_or counter j 0) 0) x p.0 h) in
      let s : x < 64 = omega arith in
      let r : get_or l x 0 ≤ max_number = rw (part_get b (25 + 64 * j) 64 x s) (all_at (λ (j : ℕ). (i : ℕ) → i < 64 → get_or b (25 + 64 * j + i) 0 ≤ max_number) array_raised a j i x s) in
      rw (q.0, top_is j i, le-leb (get_or l x 0) max_number r))
      in rw (d, p.1)

  lower_array : (j : ℕ) → j < 10 → get_or b (get_or counter j 0) 0 ≤ 64 → array_in_range_to top n b j ≡ true → array_in_range_to max_number n b j ≡ true
  unfolding array_in_range_to
  lower_array j h k e =
      go (or_either (member j array_raised) _ (every_at (λ (i : ℕ). member i array_raised || eqb (get_or (array_most_to max_number n) i 0) (get_or (array_most_to top n) i 0)) 10 j (arrays_differ top n) h))
    where
      go : (member j array_raised ≡ true) ⊎ (eqb (get_or (array_most_to max_number n) j 0) (get_or (array_most_to top n) j 0) ≡ true) → array_in_range_to max_number n b j ≡ true
      go (inl m) = lower_used j (member_in j array_raised m) k e
      go (inr z) = rw (eqb-true (get_or (array_most_to max_number n) j 0) (get_or (array_most_to top n) j 0) z) e

  lower_block : All (λ (i : ℕ). get_or b i 0 ≤ max_number) block_raised → block_in_range_to top n b ≡ true → block_in_range_to max_number n b ≡ true
  unfolding block_in_range_to block_most_to
  lower_block r e =
      by_test (eqb (get_or b 0 0) 0) (λ t. rw t (rw t at e))
      (λ t.
      let p = and_both (within (block_most_to top n) b 25) _ (rw t at e) in
      let w = lower_within (block_most_to top n) (block_most_to max_number n) b block_raised 25 (blocks_differ top n) p.0 r in
      let q = and_both (leb (get_or b remainder_place 0) max_remainder) _ p.1 in
      rw (t, w, q.0, every_of (array_in_range_to max_number n b) 10 (λ j h. lower_array j h (count_most n b j w h) (every_at (array_in_range_to top n b) 10 j q.1 h))))

-- words of a part
inside : (m : List ℕ) (s k : ℕ) (l : List ℕ) → All (λ (i : ℕ). i < k) l → All (λ (i : ℕ). get_or m (s + i) 0 ≤ max_number) l → All (λ (i : ℕ). get_or (part m s k) i 0 ≤ max_number) l
inside m s k [] h a = tt
inside m s k (i ∷ l) h a = (rw (part_get m s k i h.0) a.0, inside m s k l h.1 a.1)

pub lower : (top : ℕ) (m : List ℕ) → ranges_to top m ≡ true → RaisedAtMost max_number m → ranges_to max_number m ≡ true
unfolding ranges_to contexts_in_range_to blocks_in_range_to
lower top m e r =
    let c : ℕ = size_c m in
    let n : ℕ = size_n m in
    let p = and_both (every (λ (x : ℕ). context_in_range_to top c (part m (context_place x) record_size)) n) _ e in
    rw (
      every_of (λ (x : ℕ). context_in_range_to max_number c (part m (context_place x) record_size)) n
          (λ x h. lower_context top c (part m (context_place x) record_size) (every_at (λ (x : ℕ). context_in_range_to top c (part m (context_place x) record_size)) n x p.0 h)
          (inside m (context_place x) record_size context_raised (omega arith, (omega arith, (omega arith, (omega arith, (omega arith, tt))))) (r.context x h))),
      every_of (λ (k : ℕ). block_in_range_to max_number n (part m (cpu_place n k) block_size)) c
          (λ k h.
          let b : List ℕ = part m (cpu_place n k) block_size in
          let a = r.array k h in
          lower_block top n b
          (λ i l. rw (part_get m (cpu_place n k) block_size (25 + 64 * 0 + i) (omega arith)) (a.0 i l), (λ i l. rw (part_get m (cpu_place n k) block_size (25 + 64 * 3 + i) (omega arith)) (a.1.0 i l), tt))
          (inside m (cpu_place n k) block_size block_raised (omega arith, (omega arith, (omega arith, (omega arith, (omega arith, (omega arith, (omega arith, (omega arith, (omega arith, tt))))))))) (r.block k h))
          (every_at (λ (k : ℕ). block_in_range_to top n (part m (cpu_place n k) block_size)) c k p.1 h)),
    )
