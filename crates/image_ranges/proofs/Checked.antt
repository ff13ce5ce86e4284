-- What the tests of the ranges say, part by part. Assumes nothing.
use mathlib.Core.Path.{◌≡◌, refl, ◌∙◌}
use mathlib.Core.Bool.{Bool, true, ◌&&◌}
use Prim.Native.Nat.{ℕ, zero, suc, ◌+◌, ◌-◌, ◌<◌, ◌≤◌}
use native.Mathlib.Omega.{arith}
use mathlib.Core.List.{List}
use lib.Dec.{ltb, leb, eqb}
use lib.ListN.{get_or, take, drop}
use borrow.Author.Tests.{leb-true, ltb-true, eqb-true}
use Rattle.columns.specs.Common.{every}
use Rattle.std.proofs.lemmas.List.{get_or-take}
use Rattle.columns.specs.Blocks.{part, part_is}
use Rattle.columns.proofs.Tests.{every_at}
use Rattle.percpu.specs.Layout.{counter}
use Rattle.machine.specs.Encode.{context_place, cpu_place}
use Rattle.image_ranges.specs.Ranges.{within, block_most, array_least, used, unused, array_in_range, context_in_range, block_in_range, array_in_range_to, array_most_to, block_most_to}
use Rattle.context.specs.Words.{record_size}
use Rattle.numbers.specs.Limits.{max_number, max_id}
use Rattle.weights.specs.Weights.{full_slice, min_weight, max_weight}
use Rattle.percpu.specs.Places.{block_size}

small : every (λ (j : ℕ). ltb (get_or counter j 0) 25) 10 ≡ true
unfolding every counter
small = refl

pub counter_small : (j : ℕ) → j < 10 → get_or counter j 0 < 25
counter_small j h = ltb-true (get_or counter j 0) 25 (every_at (λ (k : ℕ). ltb (get_or counter k 0) 25) 10 j small h)

pub within_at : (table w : List ℕ) (k i : ℕ) → within table w k ≡ true → i < k → get_or w i 0 ≤ get_or table i 0
unfolding within
within_at table w k i e h = leb-true _ _ (every_at (λ (j : ℕ). leb (get_or w j 0) (get_or table j 0)) k i e h)

tops : (n : ℕ) → every (λ (j : ℕ). eqb (get_or (block_most n) (get_or counter j 0) 0) 64) 10 ≡ true
unfolding every counter block_most_to
tops n = refl

-- a count is at most 64
pub count_most : (n : ℕ) (b : List ℕ) (j : ℕ) → within (block_most n) b 25 ≡ true → j < 10 → get_or b (get_or counter j 0) 0 ≤ 64
count_most n b j e h =
    let t : get_or (block_most n) (get_or counter j 0) 0 ≡ 64
    = eqb-true _ _ (every_at (λ (j : ℕ). eqb (get_or (block_most n) (get_or counter j 0) 0) 64) 10 j (tops n) h)
    in rw t at (within_at (block_most n) b 25 (get_or counter j 0) e (counter_small j h))

-- the four counts of a block
pub counts : (n : ℕ) (b : List ℕ) → within (block_most n) b 25 ≡ true → (get_or b 21 0 ≤ 64) × (get_or b 22 0 ≤ 64) × (get_or b 23 0 ≤ 64) × (get_or b 24 0 ≤ 64)
unfolding counter
counts n b e = (count_most n b 0 e (omega arith), count_most n b 6 e (omega arith), count_most n b 8 e (omega arith), count_most n b 9 e (omega arith))

every_same : (f g : ℕ → Bool) (n : ℕ) → ((i : ℕ) → i < n → f i ≡ g i) → every f n ≡ every g n
unfolding every
every_same f g zero h = refl
every_same f g (suc n) h = rw (every_same f g n (λ i l. h i (omega arith)), h n (omega arith))

-- the first k words, as the code lends them
pub used_part : (a : List ℕ) (k low high : ℕ) → every (λ (i : ℕ). leb low (get_or (take k a) i 0) && leb (get_or (take k a) i 0) high) k ≡ used a k low high
unfolding used
used_part a k low high = every_same _ _ k (λ i h. rw (get_or-take k a i 0 h))

-- a column, as the code lends it
pub column_lent : (b : List ℕ) (at : ℕ) → take (at + 64 - at) (drop at b) ≡ part b at 64
column_lent b at = part_is b at (at + 64) 64 refl

-- a column's words, the words of the block and the range beside it
abbrev column : List ℕ → (at s low high : ℕ) → Bool
column b at s low high = used (part b at 64) (get_or b s 0) low high && unused (part b at 64) (get_or b s 0)

pub columns_are : (n : ℕ) (b : List ℕ) → every (array_in_range n b) 10 ≡
    (column b 25 21 0 max_number && column b 89 21 0 full_slice && column b 153 21 0 max_id && column b 217 21 0 max_number && column b 281 21 min_weight max_weight
    && column b 345 21 0 (n - 1) && column b 409 22 0 max_number && column b 473 22 0 (n - 1) && column b 537 23 0 (n - 1) && column b 601 24 0 (n - 1))
unfolding every counter array_in_range_to array_least array_most_to
columns_are n b = refl

-- a record and a block, as the code lends them
pub context_lent : (c : ℕ) (m : List ℕ) (x : ℕ) {at : ℕ} → at ≡ context_place x → {r : Bool} → r ≡ context_in_range c (take (at + record_size - at) (drop at m))
    → r ≡ context_in_range c (part m (context_place x) record_size)
context_lent c m x {at} p e = e ∙ rw (part_is m at (at + record_size) record_size refl, p)

pub block_lent : (n : ℕ) (m : List ℕ) (k names : ℕ) {at : ℕ} → at ≡ cpu_place n k → {r : Bool} → names ≡ n
    → r ≡ block_in_range names (take (at + block_size - at) (drop at m)) → r ≡ block_in_range n (part m (cpu_place n k) block_size)
block_lent n m k names {at} p q e = e ∙ rw (q, part_is m at (at + block_size) block_size refl, p)
