-- What the tests of the structure say, as the code makes them. Assumes nothing.
use mathlib.Core.Path.{◌≡◌, refl, sym, ap, ◌∙◌}
use mathlib.Core.Bool.{Bool, true, false, not}
use Prim.Native.Nat.{ℕ, zero, suc, ◌+◌, ◌-◌, ◌<◌, ◌≤◌, ◌%◌}
use native.Mathlib.Omega.{arith}
use mathlib.Core.List.{List}
use lib.Dec.{ltb, eqb}
use lib.ListN.{length, get_or, set, take, drop}
use lib.Seq.{get_or-set_same, get_or-set_other}
use borrow.Author.Tests.{ltb-true, ltb-false, eqb-true, eqb-false, ne_eqb}
use Rattle.columns.specs.Common.{every}
use Rattle.columns.proofs.Tests.{by_test, every_at, every_next, clash}
use Rattle.columns.specs.Blocks.{part, part_is}
use Rattle.machine.specs.Encode.{cpu_place}
use Rattle.percpu.specs.Layout.{entry_at, timer_at}
use Rattle.table.specs.Keys.{key_at}
use Rattle.timers.proofs.Table.{same_order}
use Rattle.image_structure.specs.Rises.{rises}
use Rattle.image_ranges.specs.Ranges.{block_in_range, blocks_in_range, blocks_in_range_to}
use Rattle.image_structure.specs.Structure.{id_of, is_new, keys_rise, timers_rise, block_structure}
use Rattle.percpu.specs.Places.{key_ctxt_id_column, timer_wake_column, timer_context_ref_column, block_size}

-- neighbours in an order, as the code has them: a is item i and z the next
pub neighbours : {A : Type 0} (t : A → A → Bool) (f : ℕ → A) (i : ℕ) (a z : A) {r v : Bool} → a ≡ f i → z ≡ f (i + 1) → r ≡ t a z → r ≡ v → t (f i) (f (i + 1)) ≡ v
neighbours t f i a z p q e g = sym (ap (λ (x : _). t x z) p ∙ ap (t (f i)) q) ∙ sym e ∙ g

-- a test that the numbers below i - 1 pass, and i - 1
pub one_more : (f : ℕ → Bool) (i : ℕ) → 1 ≤ i → every f (i - 1) ≡ true → f (i - 1) ≡ true → every f (i + 1 - 1) ≡ true
one_more f i h e g = let z : i + 1 - 1 ≡ i - 1 + 1 = omega arith in rw z (every_next f (i - 1) e g)

-- a test that every number below n passes, from each of them
pub every_all : (f : ℕ → Bool) (n : ℕ) → ((i : ℕ) → i < n → f i ≡ true) → every f n ≡ true
unfolding every
every_all f zero h = refl
every_all f (suc n) h = rw (every_all f n (λ i g. h i (omega arith)), h n (omega arith))

-- where a remainder was not seen yet, the id is new
pub unseen : (m : List ℕ) (seen : List Bool) (y id h : ℕ) → id ≡ id_of m y → h ≡ id % 64 → ((x : ℕ) → x < y → get_or seen (id_of m x % 64) false ≡ true) → get_or seen h false ≡ false
    → true ≡ is_new m y
unfolding is_new
unseen m seen y id h p q e z =
    sym (every_all (λ (x : ℕ). not (eqb (id_of m x) (id_of m y))) y
    (λ x g. rw (ne_eqb (id_of m x) (id_of m y)
    (λ s. clash (ap (λ (k : ℕ). get_or seen k false) (q ∙ ap (λ (k : ℕ). k % 64) (p ∙ sym s)) ∙ e x g) z))))

-- what was seen, with one more
pub seen_more : (m : List ℕ) (seen : List Bool) (y id h : ℕ) → id ≡ id_of m y → h ≡ id % 64 → h < length seen → ((x : ℕ) → x < y → get_or seen (id_of m x % 64) false ≡ true)
    → (x : ℕ) → x < y + 1 → get_or (set seen h true) (id_of m x % 64) false ≡ true
seen_more m seen y id h p q l e x g =
    by_test (eqb h (id_of m x % 64))
    (λ t. rw (← eqb-true h (id_of m x % 64) t) (get_or-set_same seen h true false l))
    (λ t. get_or-set_other seen h (id_of m x % 64) true false (λ s. eqb-false h (id_of m x % 64) t (sym s))
    ∙ by_test (ltb x y) (λ u. e x (ltb-true x y u))
    (λ u. let v : x ≡ y = omega (arith, ltb-false x y u) in absurd (eqb-false h (id_of m x % 64) t (q ∙ ap (λ (k : ℕ). k % 64) (p ∙ ap (id_of m) (sym v))))))

-- the block of CPU k, as the code lends it; names is n as a word
module _ (c n k names : ℕ) (m : List ℕ) {at : ℕ} (p : at ≡ cpu_place n k) (q : names ≡ n) where
  abbrev lent : List ℕ
  lent = take (at + block_size - at) (drop at m)

  lent_is : lent ≡ part m (cpu_place n k) block_size
  lent_is = part_is m at (at + block_size) block_size refl ∙ rw p

  pub lent_in_range : k < c → blocks_in_range c n m ≡ true → block_in_range names lent ≡ true
  unfolding blocks_in_range_to
  lent_in_range h e = rw (q, lent_is) (every_at (λ (k : ℕ). block_in_range n (part m (cpu_place n k) block_size)) c k e h)

  pub lent_structure : {r : Bool} → r ≡ block_structure m lent → r ≡ block_structure m (part m (cpu_place n k) block_size)
  lent_structure e = e ∙ rw (lent_is)

-- keys and timers that rise, from the columns
pub keys_are : (b : List ℕ) (k : ℕ) {r : Bool} → k ≡ get_or b 21 0 → r ≡ rises b 25 89 key_ctxt_id_column k → r ≡ keys_rise b
unfolding rises keys_rise key_at entry_at
keys_are b k h e = e ∙ rw h

pub timers_are : (b : List ℕ) (k : ℕ) {r : Bool} → k ≡ get_or b 22 0 → r ≡ rises b timer_wake_column timer_wake_column timer_context_ref_column k → r ≡ timers_rise b
unfolding rises timers_rise key_at timer_at
timers_are b k h e =
    e ∙ rw h (ap (λ (f : ℕ → Bool). every f (get_or b 22 0 - 1)) (λ j i. same_order (timer_at b i) (timer_at b (i + 1)) j))
