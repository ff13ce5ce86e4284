-- Words that share a bound of all ones, taken together by `or`; and with them the ranges of a live record. Assumes nothing.
use mathlib.Core.Path.{◌≡◌, sym, ◌∙◌}
use mathlib.Core.Bool.{true, ◌&&◌}
use mathlib.Core.List.{List, [], ◌∷◌}
use Prim.Native.Nat.{ℕ, ◌^◌, ◌<◌, ◌≤◌}
use native.Mathlib.Omega.{arith}
use lib.Dec.{leb}
use lib.ListN.{get_or}
use lib.Bits.{bit_or, or_add_and, and_le_l, and_le_r, or_lt}
use borrow.Author.Tests.{leb-true, le-leb}
use Rattle.columns.specs.Common.{every, fold, All}
use Rattle.columns.proofs.Tests.{by_test, and_both, clash}
use Rattle.image_ranges.specs.Ranges.{within, context_most, context_most_to}
use Rattle.image_ranges.specs.Singles.{single_words}
use Rattle.image_ranges.proofs.Checked.{within_at}
use Rattle.context.specs.Words.{record_size}
use Rattle.weights.specs.Weights.{full_slice}
use Rattle.numbers.specs.Limits.{max_id, max_number, max_word}

or_least : (a b : ℕ) → (a ≤ bit_or a b) × (b ≤ bit_or a b)
or_least a b = (omega (arith, or_add_and a b, and_le_r a b), omega (arith, or_add_and a b, and_le_l a b))

together_least : (a : ℕ) (l : List ℕ) → (a ≤ fold bit_or a l) × All (λ (x : ℕ). x ≤ fold bit_or a l) l
together_least a [] = (omega arith, tt)
together_least a (x ∷ l) =
    let o = or_least a x
    in let r = together_least (bit_or a x) l
    in (omega (arith, o.0, r.0), (omega (arith, o.1, r.0), r.1))

together_below : (k a : ℕ) (l : List ℕ) → a < 2 ^ k → All (λ (x : ℕ). x < 2 ^ k) l → fold bit_or a l < 2 ^ k
together_below k a [] h o = h
together_below k a (x ∷ l) h o = together_below k (bit_or a x) l (or_lt k a x h o.0) o.1

module _ (c : ℕ) (w : List ℕ) where
  abbrev marks : ℕ
  marks = fold bit_or (get_or w 0 0) (get_or w 3 0 ∷ get_or w 4 0 ∷ get_or w 11 0 ∷ get_or w 12 0 ∷ get_or w 14 0 ∷ get_or w 15 0 ∷ get_or w 20 0 ∷ get_or w 21 0 ∷ [])

  abbrev numbers : ℕ
  numbers = fold bit_or (get_or w 6 0) (get_or w 7 0 ∷ get_or w 8 0 ∷ get_or w 9 0 ∷ get_or w 13 0 ∷ get_or w 17 0 ∷ get_or w 18 0 ∷ get_or w 22 0 ∷ [])

  -- all words are in their ranges: so are those taken together
  taken : within (context_most c) w record_size ≡ true → (leb marks 1 && (leb numbers max_number && single_words c w)) ≡ true
  unfolding context_most_to single_words
  taken e =
      let at : (i : ℕ) → i < record_size → get_or w i 0 ≤ get_or (context_most c) i 0 = λ i h. within_at (context_most c) w record_size i e h
      in let m : marks < 2 ^ 1 = together_below 1 (get_or w 0 0) (get_or w 3 0 ∷ get_or w 4 0 ∷ get_or w 11 0 ∷ get_or w 12 0 ∷ get_or w 14 0 ∷ get_or w 15 0 ∷ get_or w 20 0 ∷ get_or w 21 0 ∷ []) (omega (arith, at 0 (omega arith))) (omega (arith, at 3 (omega arith)), (omega (arith, at 4 (omega arith)), (omega (arith, at 11 (omega arith)), (omega (arith, at 12 (omega arith)), (omega (arith, at 14 (omega arith)), (omega (arith, at 15 (omega arith)), (omega (arith, at 20 (omega arith)), (omega (arith, at 21 (omega arith)), tt))))))))
      in let q : numbers < 2 ^ 62 = together_below 62 (get_or w 6 0) (get_or w 7 0 ∷ get_or w 8 0 ∷ get_or w 9 0 ∷ get_or w 13 0 ∷ get_or w 17 0 ∷ get_or w 18 0 ∷ get_or w 22 0 ∷ []) (omega (arith, at 6 (omega arith))) (omega (arith, at 7 (omega arith)), (omega (arith, at 8 (omega arith)), (omega (arith, at 9 (omega arith)), (omega (arith, at 13 (omega arith)), (omega (arith, at 17 (omega arith)), (omega (arith, at 18 (omega arith)), (omega (arith, at 22 (omega arith)), tt)))))))
      in rw (le-leb marks 1 (omega arith), le-leb numbers max_number (omega arith), le-leb (get_or w 1 0) max_id (at 1 (omega arith)), le-leb (get_or w 2 0) 5 (at 2 (omega arith)), le-leb (get_or w 5 0) c (at 5 (omega arith)), le-leb (get_or w 10 0) max_word (at 10 (omega arith)), le-leb (get_or w 16 0) 39 (at 16 (omega arith)), le-leb (get_or w 19 0) full_slice (at 19 (omega arith)), le-leb (get_or w 23 0) full_slice (at 23 (omega arith)), le-leb (get_or w 24 0) 2 (at 24 (omega arith)), le-leb (get_or w 25 0) 2 (at 25 (omega arith)))

  -- those taken together are in their ranges: so are all words
  given : (leb marks 1 && (leb numbers max_number && single_words c w)) ≡ true → within (context_most c) w record_size ≡ true
  unfolding within every context_most_to single_words
  given e =
      let (a, r) = and_both (leb marks 1) _ e
      in let (b, s) = and_both (leb numbers max_number) _ r
      in let h : marks ≤ 1 = leb-true marks 1 a
      in let g : numbers ≤ max_number = leb-true numbers max_number b
      in let (m₀, m) = together_least (get_or w 0 0) (get_or w 3 0 ∷ get_or w 4 0 ∷ get_or w 11 0 ∷ get_or w 12 0 ∷ get_or w 14 0 ∷ get_or w 15 0 ∷ get_or w 20 0 ∷ get_or w 21 0 ∷ [])
      in let (q₀, q) = together_least (get_or w 6 0) (get_or w 7 0 ∷ get_or w 8 0 ∷ get_or w 9 0 ∷ get_or w 13 0 ∷ get_or w 17 0 ∷ get_or w 18 0 ∷ get_or w 22 0 ∷ [])
      in let (t25, s25) = and_both _ (leb (get_or w 25 0) 2) s
      in let (t24, s24) = and_both _ (leb (get_or w 24 0) 2) t25
      in let (t23, s23) = and_both _ (leb (get_or w 23 0) full_slice) t24
      in let (t19, s19) = and_both _ (leb (get_or w 19 0) full_slice) t23
      in let (t16, s16) = and_both _ (leb (get_or w 16 0) 39) t19
      in let (t10, s10) = and_both _ (leb (get_or w 10 0) max_word) t16
      in let (t5, s5) = and_both _ (leb (get_or w 5 0) c) t10
      in let (t2, s2) = and_both (leb (get_or w 1 0) max_id) (leb (get_or w 2 0) 5) t5
      in rw (le-leb (get_or w 0 0) 1 (omega (arith, m₀)), t2, s2, le-leb (get_or w 3 0) 1 (omega (arith, m.0)), le-leb (get_or w 4 0) 1 (omega (arith, m.1.0)), s5, le-leb (get_or w 6 0) max_number (omega (arith, q₀)), le-leb (get_or w 7 0) max_number (omega (arith, q.0)), le-leb (get_or w 8 0) max_number (omega (arith, q.1.0)), le-leb (get_or w 9 0) max_number (omega (arith, q.1.1.0)), s10, le-leb (get_or w 11 0) 1 (omega (arith, m.1.1.0)), le-leb (get_or w 12 0) 1 (omega (arith, m.1.1.1.0)), le-leb (get_or w 13 0) max_number (omega (arith, q.1.1.1.0)), le-leb (get_or w 14 0) 1 (omega (arith, m.1.1.1.1.0)), le-leb (get_or w 15 0) 1 (omega (arith, m.1.1.1.1.1.0)), s16, le-leb (get_or w 17 0) max_number (omega (arith, q.1.1.1.1.0)), le-leb (get_or w 18 0) max_number (omega (arith, q.1.1.1.1.1.0)), s19, le-leb (get_or w 20 0) 1 (omega (arith, m.1.1.1.1.1.1.0)), le-leb (get_or w 21 0) 1 (omega (arith, m.1.1.1.1.1.1.1.0)), le-leb (get_or w 22 0) max_number (omega (arith, q.1.1.1.1.1.1.0)), s23, s24, s25)

  pub within_is : within (context_most c) w record_size ≡ (leb marks 1 && (leb numbers max_number && single_words c w))
  within_is =
      by_test (within (context_most c) w record_size) (λ e. e ∙ sym (taken e))
      (λ e. by_test (leb marks 1 && (leb numbers max_number && single_words c w)) (λ f. clash (given f) e) (λ f. e ∙ sym f))
