-- Times added up over records: as the code goes, and one context after the other. Assumes nothing.
use mathlib.Core.Path.{◌≡◌, refl, ap, ◌∙◌}
use Prim.Native.Nat.{ℕ, zero, suc, ◌+◌, ◌<◌, ◌≤◌}
use native.Mathlib.Omega.{arith}
use native.Mathlib.Numerals.{add-one}
use mathlib.Core.List.{List, [], ◌∷◌, ◌++◌}
use lib.Dec.{eqb}
use borrow.Author.Tests.{eq-eqb, ne_eqb, eqb-true, eqb-false}
use Rattle.columns.specs.Common.{tabulate, All}
use Rattle.columns.proofs.Tests.{by_test}
use Rattle.answer.specs.declared.Answer.{Answer}
use Rattle.numbers.specs.Limits.{max_elapsed}
use Rattle.window.specs.declared.Record.{Record}
use Rattle.window.specs.declared.Whose.{Whose}
use Rattle.window.specs.declared.Whose.TheVariants.{Context, All as Everyone}
use Rattle.window.specs.Window.{count_of, record_at, records, refusal}
use Rattle.window.specs.Shares.{time_for, sum_for, sum_below, share_answer}
use Rattle.window.specs.Passes.{Passes}
use Rattle.window.proofs.Checked.{context_in, time_in}
use Rattle.window.proofs.Lists.{tabulate_snoc, tabulate_all}

-- the code's answer for one context
pub same_context : (x context time : ℕ) → context ≡ x → time ≡ time_for (Context x) (record { context = context; time = time })
same_context x context time e = rw (eq-eqb context x e)

pub other_context : (x context time : ℕ) → (context ≡ x → ⊥) → 0 ≡ time_for (Context x) (record { context = context; time = time })
other_context x context time n = rw (ne_eqb context x n)

module _ (whose : Whose) where
  pub sum_snoc : (rs : List Record) (r : Record) → sum_for whose (rs ++ (r ∷ [])) ≡ sum_for whose rs + time_for whose r
  unfolding sum_for
  sum_snoc [] r = omega arith
  sum_snoc (s ∷ rs) r = let e : sum_for whose (rs ++ (r ∷ [])) ≡ sum_for whose rs + time_for whose r = sum_snoc rs r in omega (arith, e)

  -- the sum over the first i records of w
  abbrev summed : List ℕ → ℕ → ℕ
  summed w i = sum_for whose (tabulate i (record_at w))

  pub none_summed : (w : List ℕ) → 0 ≡ summed w 0
  unfolding sum_for tabulate
  none_summed w = refl

  pub one_more : (w : List ℕ) (i total t : ℕ) → total ≡ summed w i → t ≡ time_for whose (record_at w i) → total + t ≡ summed w (i + 1)
  one_more w i total t e f =
      let s : summed w (suc i) ≡ summed w i + time_for whose (record_at w i) = ap (sum_for whose) (tabulate_snoc i (record_at w)) ∙ sum_snoc (tabulate i (record_at w)) (record_at w i)
      in rw (add-one i, s, e, f)

  pub all_summed : (w : List ℕ) (i count total : ℕ) → i ≤ count → count ≤ i → count ≡ count_of w → total ≡ summed w i → total ≡ sum_for whose (records w)
  all_summed w i count total h g e f = let q : i ≡ count_of w = omega arith in f ∙ ap (summed w) q

  -- the answer, from what the code's check gave
  pub share_refused : {a : Answer} (n r : ℕ) (w : List ℕ) → r ≡ refusal n w → (r ≡ 0 → ⊥) → a ≡ record { refusal = r; result = 0; interrupt = 0; rule = 0 } → a ≡ share_answer n whose w
  unfolding share_answer
  share_refused n r w e z h = rw (← e, ne_eqb r 0 z) h

  pub share_given : (n r total : ℕ) (w : List ℕ) → r ≡ refusal n w → r ≡ 0 → total ≡ sum_for whose (records w)
      → record { refusal = 0; result = total; interrupt = 0; rule = 0 } ≡ share_answer n whose w
  unfolding share_answer
  share_given n r total w e z h = rw (← e, z, h)

-- a record in the window
pub time_most : (n : ℕ) (w : List ℕ) → Passes n w → (i : ℕ) → i < count_of w → (record_at w i).time ≤ max_elapsed
time_most n w p i h = time_in n (record_at w i) (p.in_range i h)

-- sums over the contexts below n
sum_zero : (n : ℕ) → sum_below n (λ (x : ℕ). 0) ≡ 0
unfolding sum_below
sum_zero zero = refl
sum_zero (suc n) = let e : sum_below n (λ (x : ℕ). 0) ≡ 0 = sum_zero n in omega (arith, e)

sum_plus : (n : ℕ) (f g : ℕ → ℕ) → sum_below n (λ (x : ℕ). f x + g x) ≡ sum_below n f + sum_below n g
unfolding sum_below
sum_plus zero f g = refl
sum_plus (suc n) f g = let e : sum_below n (λ (x : ℕ). f x + g x) ≡ sum_below n f + sum_below n g = sum_plus n f g in omega (arith, e)

none_hit : (n : ℕ) (r : Record) → n ≤ r.context → sum_below n (λ (x : ℕ). time_for (Context x) r) ≡ 0
unfolding sum_below
none_hit zero r h = refl
none_hit (suc n) r h = let e : sum_below n (λ (x : ℕ). time_for (Context x) r) ≡ 0 = none_hit n r (omega arith) in rw (e, ne_eqb r.context n (λ q. omega arith))

one_hit : (n : ℕ) (r : Record) → r.context < n → sum_below n (λ (x : ℕ). time_for (Context x) r) ≡ r.time
unfolding sum_below
one_hit zero r h = absurd (omega arith)
one_hit (suc n) r h =
    by_test (eqb r.context n)
    (λ t. let e : r.context ≡ n = eqb-true r.context n t in rw (t, none_hit n r (omega arith)) (omega arith))
    (λ t. let e : r.context ≡ n → ⊥ = eqb-false r.context n t
    in let s : sum_below n (λ (x : ℕ). time_for (Context x) r) ≡ r.time = one_hit n r (below r.context n h e)
    in rw (t, s) (omega arith))
  where
    below : (c k : ℕ) → c < suc k → (c ≡ k → ⊥) → c < k
    below c k b f = omega (arith, f)

-- every record is of a context below n: the sums of the contexts add up to the whole
pub contexts_add_up : (n : ℕ) (rs : List Record) → All (λ (r : Record). r.context < n) rs
    → sum_below n (λ (x : ℕ). sum_for (Context x) rs) ≡ sum_for Everyone rs
unfolding sum_for
contexts_add_up n [] h = sum_zero n
contexts_add_up n (r ∷ rs) h =
    sum_plus n (λ (x : ℕ). time_for (Context x) r) (λ (x : ℕ). sum_for (Context x) rs)
    ∙ (λ j. one_hit n r h.0 j + contexts_add_up n rs h.1 j)

-- and a context that is not below n has none
pub none_above : (n x : ℕ) → n ≤ x → (rs : List Record) → All (λ (r : Record). r.context < n) rs → sum_for (Context x) rs ≡ 0
unfolding sum_for
none_above n x b [] h = refl
none_above n x b (r ∷ rs) h =
    let g : r.context < n = h.0
    in let e : sum_for (Context x) rs ≡ 0 = none_above n x b rs h.1
    in rw (ne_eqb r.context x (λ q. omega arith)) (omega (arith, e))

module _ (n : ℕ) (w : List ℕ) (p : Passes n w) where
  records_below : All (λ (r : Record). r.context < n) (records w)
  records_below = tabulate_all (λ (r : Record). r.context < n) (count_of w) (record_at w) (λ i h. context_in n (record_at w i) (p.in_range i h))

  -- of a window that passes
  pub shares_add_up : sum_below n (λ (x : ℕ). sum_for (Context x) (records w)) ≡ sum_for Everyone (records w)
  shares_add_up = contexts_add_up n (records w) records_below

  pub share_above : (x : ℕ) → n ≤ x → sum_for (Context x) (records w) ≡ 0
  share_above x h = none_above n x h (records w) records_below
