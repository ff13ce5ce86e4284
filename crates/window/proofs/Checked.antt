-- The check of a window, from what the code tested, and what passing it says. Assumes nothing.
use mathlib.Core.Path.{◌≡◌, refl, sym, ap, ◌∙◌}
use mathlib.Core.Bool.{Bool, true, false, not}
use Prim.Native.Nat.{ℕ, zero, suc, ◌<◌, ◌≤◌}
use native.Mathlib.Omega.{arith}
use mathlib.Core.List.{List}
use lib.Dec.{ltb, leb, eqb}
use lib.ListN.{length}
use borrow.Author.Tests.{lt-ltb, le-ltb, le-leb, lt-leb, eq-eqb, ne_eqb, eqb-true, ltb-true, ltb-false, leb-true}
use Rattle.columns.specs.Common.{every}
use Rattle.columns.proofs.Tests.{and_both, and_no, every_at, every_no, past}
use Rattle.numbers.specs.Limits.{max_elapsed}
use Rattle.window.specs.declared.Record.{Record}
use Rattle.window.specs.Window.{capacity, window_size, count_of, record_at, is_in_range, refusal}
use Rattle.window.specs.Passes.{Passes}

not_false : (b : Bool) → not b ≡ false → b ≡ true
not_false true e = refl
not_false false e = sym e

all_pass : (f : ℕ → Bool) (n : ℕ) → ((i : ℕ) → i < n → f i ≡ true) → every f n ≡ true
unfolding every
all_pass f zero h = refl
all_pass f (suc n) h = rw (all_pass f n (λ i b. h i (omega arith)), h n (omega arith))

-- of one record
pub context_out : (n : ℕ) (r : Record) → n ≤ r.context → is_in_range n r ≡ false
context_out n r h = rw (le-ltb r.context n h)

pub time_out : (n : ℕ) (r : Record) → max_elapsed < r.time → is_in_range n r ≡ false
time_out n r h = and_no (ltb r.context n) (leb r.time max_elapsed) (lt-leb r.time max_elapsed h)

pub both_in : (n : ℕ) (r : Record) → r.context < n → r.time ≤ max_elapsed → is_in_range n r ≡ true
both_in n r h g = rw (lt-ltb r.context n h, le-leb r.time max_elapsed g)

-- and what that says
pub context_in : (n : ℕ) (r : Record) → is_in_range n r ≡ true → r.context < n
context_in n r e = ltb-true r.context n (and_both (ltb r.context n) (leb r.time max_elapsed) e).0

pub time_in : (n : ℕ) (r : Record) → is_in_range n r ≡ true → r.time ≤ max_elapsed
time_in n r e = leb-true r.time max_elapsed (and_both (ltb r.context n) (leb r.time max_elapsed) e).1

-- one record out of its range
pub stops : (n : ℕ) (w : List ℕ) (count i : ℕ) → i < count → is_in_range n (record_at w i) ≡ false
    → false ≡ every (λ (j : ℕ). is_in_range n (record_at w j)) count
stops n w count i h e = sym (every_no (λ (j : ℕ). is_in_range n (record_at w j)) count i h e)

module _ (n : ℕ) (w : List ℕ) where
  pub size_wrong : (length w ≡ window_size → ⊥) → 1 ≡ refusal n w
  unfolding refusal
  size_wrong h = rw (ne_eqb (length w) window_size h)

  module _ (l : length w ≡ window_size) (count : ℕ) (e : count ≡ count_of w) where
    pub count_over : capacity < count → 1 ≡ refusal n w
    unfolding refusal
    count_over h = rw (eq-eqb (length w) window_size l, lt-ltb capacity (count_of w) (omega arith))

    -- b: what the code's pass over the records gave
    module _ (h : count ≤ capacity) (b : Bool) (f : b ≡ every (λ (i : ℕ). is_in_range n (record_at w i)) count) where
      told : every (λ (i : ℕ). is_in_range n (record_at w i)) (count_of w) ≡ b
      told = ap (every (λ (i : ℕ). is_in_range n (record_at w i))) (sym e) ∙ sym f

      pub passes_all : b ≡ true → 0 ≡ refusal n w
      unfolding refusal
      passes_all t = rw (eq-eqb (length w) window_size l, le-ltb capacity (count_of w) (omega arith), told, t)

      pub one_out : b ≡ false → 3 ≡ refusal n w
      unfolding refusal
      one_out t = rw (eq-eqb (length w) window_size l, le-ltb capacity (count_of w) (omega arith), told, t)

  -- what no refusal says, and what it takes
  pub passes : refusal n w ≡ 0 → Passes n w
  unfolding refusal
  passes z =
      let p = past (not (eqb (length w) window_size)) 1 _ (λ y. omega arith) z
      in let q = past (ltb capacity (count_of w)) 1 _ (λ y. omega arith) p.1
      in let s = past (not (every (λ (i : ℕ). is_in_range n (record_at w i)) (count_of w))) 3 0 (λ y. omega arith) q.1
      in record {
        size = eqb-true (length w) window_size (not_false (eqb (length w) window_size) p.0);
        count = ltb-false capacity (count_of w) q.0;
        in_range = λ i b. every_at (λ (j : ℕ). is_in_range n (record_at w j)) (count_of w) i (not_false (every (λ (j : ℕ). is_in_range n (record_at w j)) (count_of w)) s.0) b;
      }

  pub passing : Passes n w → refusal n w ≡ 0
  unfolding refusal
  passing p =
      let e : every (λ (i : ℕ). is_in_range n (record_at w i)) (count_of w) ≡ true = all_pass (λ (i : ℕ). is_in_range n (record_at w i)) (count_of w) p.in_range
      in rw (eq-eqb (length w) window_size p.size, le-ltb capacity (count_of w) p.count, e)
