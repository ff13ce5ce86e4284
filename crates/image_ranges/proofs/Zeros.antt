-- Words that are all 0: taken together by `or`, which a processor does for several words at a time. Assumes nothing.
use mathlib.Core.Path.{◌≡◌, refl, ap, ◌∙◌}
use mathlib.Core.Bool.{Bool, ◌&&◌}
use Prim.Native.Nat.{ℕ, ◌+◌, ◌-◌, ◌≤◌}
use native.Mathlib.Omega.{arith}
use native.Mathlib.Numerals.{add-one}
use mathlib.Core.List.{List}
use lib.Dec.{eqb}
use lib.ListN.{length, get_or, drop, length-drop}
use lib.Seq.{get_or-drop}
use Rattle.std.specs.List.{between}
use Rattle.std.proofs.lemmas.Slice.{between_to_end}
use lib.Bits.{bit_or, or_add_and, and_le_l, and_le_r}
use borrow.Author.Tests.{eqb-true, eqb-false, eq-eqb, ne_eqb}
use Rattle.columns.specs.Common.{every}
use Rattle.columns.proofs.Tests.{by_test}
use Rattle.image_ranges.specs.Ranges.{zero_words, unused}

or_zero : (a b : ℕ) → a ≡ 0 → b ≡ 0 → bit_or a b ≡ 0
or_zero a b e f = omega (arith, or_add_and a b, and_le_l a b)

zero_or : (a b : ℕ) → bit_or a b ≡ 0 → (a ≡ 0) × (b ≡ 0)
zero_or a b e = (omega (arith, or_add_and a b, and_le_r a b), omega (arith, or_add_and a b, and_le_l a b))

both_zero : (a b : ℕ) → eqb (bit_or a b) 0 ≡ (eqb a 0 && eqb b 0)
both_zero a b =
    by_test (eqb a 0)
    (λ e. rw e (by_test (eqb b 0) (λ f. rw f (eq-eqb _ 0 (or_zero a b (eqb-true a 0 e) (eqb-true b 0 f)))) (λ f. rw f (ne_eqb _ 0 (λ z. eqb-false b 0 f (zero_or a b z).1)))))
    (λ e. rw e (ne_eqb _ 0 (λ z. eqb-false a 0 e (zero_or a b z).0)))

-- `all` is the first i words taken together; x is the next
pub zeros_none : (f : ℕ → Bool) → eqb 0 0 ≡ every f 0
unfolding every
zeros_none f = refl

pub zeros_next : (f : ℕ → Bool) (all x i : ℕ) → eqb all 0 ≡ every f i → eqb x 0 ≡ f i → eqb (bit_or all x) 0 ≡ every f (i + 1)
unfolding every
zeros_next f all x i e g = rw (add-one i) (both_zero all x ∙ (λ j. e j && g j))

pub zeros_all : (f : ℕ → Bool) (all i n : ℕ) → n ≤ i → i ≤ n → eqb all 0 ≡ every f i → eqb all 0 ≡ every f n
zeros_all f all i n h g e = let z : i ≡ n = omega arith in e ∙ ap (every f) z

-- the words behind the first k of a column
pub rest_unused : (a : List ℕ) (k : ℕ) → length a ≡ 64 → k ≤ 64 → zero_words (between k (length a) a) (length (between k (length a) a)) ≡ unused a k
unfolding zero_words unused
rest_unused a k l h =
    let n : length (drop k a) ≡ 64 - k = rw length-drop (omega arith)
    in ap (λ (w : List ℕ). zero_words w (length w)) (between_to_end a k (length a) (omega arith))
    ∙ ap (every (λ (i : ℕ). eqb (get_or (drop k a) i 0) 0)) n
    ∙ (λ j. every (λ (i : ℕ). eqb (get_or-drop k a i 0 j) 0) (64 - k))
