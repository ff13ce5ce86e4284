-- The records of a window to which one was added: the newest 256. Assumes nothing.
use mathlib.Core.Path.{◌≡◌, refl, sym, ap, ◌∙◌, subst}
use mathlib.Core.Bool.{true, false}
use Prim.Native.Nat.{ℕ, zero, suc, ◌+◌, ◌-◌, ◌<◌, ◌≤◌}
use native.Mathlib.Omega.{arith}
use native.Mathlib.Numerals.{add-one}
use mathlib.Core.List.{List, [], ◌∷◌, ◌++◌}
use lib.Dec.{ltb}
use lib.ListN.{length, get_or, set, take, drop, length-append, length-set, get_or-append}
use lib.Seq.{get_or-set_same, get_or-set_other, get_or-take, get_or-drop, get_or-append-add, length-slice, slice, drop-append-le}
use borrow.Author.Tests.{ltb-true, ltb-false}
use Rattle.columns.specs.Common.{tabulate, All}
use Rattle.columns.specs.Columns.{column_remove}
use Rattle.columns.specs.Blocks.{part}
use Rattle.columns.proofs.Tests.{by_test}
use Rattle.columns.proofs.Tabulate.{length_tabulate, part_get}
use Rattle.window.specs.declared.Record.{Record}
use Rattle.window.specs.Window.{capacity, window_size, count_of, record_at, records, appended, without_oldest, added, newest, is_in_range}
use Rattle.window.specs.Passes.{Passes}
use Rattle.window.proofs.Adding.{contexts_size, times_size, length_removed, length_without}
use Rattle.window.proofs.Lists.{tabulate_snoc, tabulate_same, tabulate_all, drop_tabulate, newest_all}

-- r is written to slot k
module _ (w : List ℕ) (r : Record) (l : length w ≡ window_size) (h : count_of w < capacity) where
  abbrev k : ℕ
  k = count_of w

  abbrev w' : List ℕ
  w' = set (set (set w 0 (k + 1)) (1 + k) r.context) (257 + k) r.time

  -- a word that is not written
  other : (j : ℕ) → (j ≡ 0 → ⊥) → (j ≡ 1 + k → ⊥) → (j ≡ 257 + k → ⊥) → get_or w' j 0 ≡ get_or w j 0
  other j a b c =
      get_or-set_other (set (set w 0 (k + 1)) (1 + k) r.context) (257 + k) j r.time 0 c
      ∙ get_or-set_other (set w 0 (k + 1)) (1 + k) j r.context 0 b
      ∙ get_or-set_other w 0 j (k + 1) 0 a

  count_is : get_or w' 0 0 ≡ k + 1
  count_is =
      get_or-set_other (set (set w 0 (k + 1)) (1 + k) r.context) (257 + k) 0 r.time 0 (λ e. omega arith)
      ∙ get_or-set_other (set w 0 (k + 1)) (1 + k) 0 r.context 0 (λ e. omega arith)
      ∙ get_or-set_same w 0 (k + 1) 0 (omega arith)

  context_is : get_or w' (1 + k) 0 ≡ r.context
  context_is =
      get_or-set_other (set (set w 0 (k + 1)) (1 + k) r.context) (257 + k) (1 + k) r.time 0 (λ e. omega arith)
      ∙ get_or-set_same (set w 0 (k + 1)) (1 + k) r.context 0 (simp length-set (omega arith))

  time_is : get_or w' (257 + k) 0 ≡ r.time
  time_is = get_or-set_same (set (set w 0 (k + 1)) (1 + k) r.context) (257 + k) r.time 0 (simp length-set (omega arith))

  earlier : (i : ℕ) → i < k → record_at w' i ≡ record_at w i
  earlier i b =
      λ j. record {
        context = other (1 + i) (λ e. omega arith) (λ e. omega arith) (λ e. omega arith) j;
        time = other (257 + i) (λ e. omega arith) (λ e. omega arith) (λ e. omega arith) j;
      }

  last_is : record_at w' k ≡ r
  last_is = λ j. record { context = context_is j; time = time_is j }

  pub count_appended : count_of (appended w r) ≡ count_of w + 1
  unfolding appended
  count_appended = count_is

  pub records_appended : records (appended w r) ≡ records w ++ (r ∷ [])
  unfolding appended
  records_appended =
      ap (λ (j : ℕ). tabulate j (record_at w')) (count_is ∙ add-one k)
      ∙ tabulate_snoc k (record_at w')
      ∙ (λ j. tabulate_same k (record_at w') (record_at w) earlier j ++ (last_is j ∷ []))

  pub length_appended : length (appended w r) ≡ window_size
  unfolding appended
  length_appended = simp length-set l

-- the first word of a column leaves
removed_get : (a : List ℕ) (i : ℕ) → length a ≡ 256 → i < 255 → get_or (column_remove a 256 0) i 0 ≡ get_or a (1 + i) 0
unfolding column_remove
removed_get a i l h =
    get_or-append (slice 1 256 a) (0 ∷ drop 256 a) 0 i (rw (length-slice 1 256 a (omega arith)) h)
    ∙ get_or-drop 1 (take 256 a) i 0
    ∙ get_or-take 256 a (1 + i) 0 (omega arith)

module _ (w : List ℕ) (l : length w ≡ window_size) (c : count_of w ≡ capacity) where
  contexts_left : (i : ℕ) → i < 255 → get_or (without_oldest w) (1 + i) 0 ≡ get_or w (1 + (1 + i)) 0
  unfolding without_oldest
  contexts_left i h =
      get_or-append-add (255 ∷ []) (column_remove (part w 1 256) 256 0 ++ column_remove (part w 257 256) 256 0) i 0
      ∙ get_or-append (column_remove (part w 1 256) 256 0) (column_remove (part w 257 256) 256 0) 0 i (rw (length_removed (part w 1 256) (contexts_size w l)) (omega arith))
      ∙ removed_get (part w 1 256) i (contexts_size w l) h
      ∙ part_get w 1 256 (1 + i) (omega arith)

  times_left : (i : ℕ) → i < 255 → get_or (without_oldest w) (257 + i) 0 ≡ get_or w (257 + (1 + i)) 0
  unfolding without_oldest
  times_left i h =
      (rw (length_removed (part w 1 256) (contexts_size w l)) at (get_or-append-add (255 ∷ column_remove (part w 1 256) 256 0) (column_remove (part w 257 256) 256 0) i 0))
      ∙ removed_get (part w 257 256) i (times_size w l) h
      ∙ part_get w 257 256 (1 + i) (omega arith)

  left : (i : ℕ) → i < 255 → record_at (without_oldest w) i ≡ record_at w (suc i)
  left i h =
      let e : 1 + i ≡ suc i = omega arith
      in λ j. record { context = (contexts_left i h ∙ ap (λ (z : ℕ). get_or w (1 + z) 0) e) j; time = (times_left i h ∙ ap (λ (z : ℕ). get_or w (257 + z) 0) e) j }

  pub count_without : count_of (without_oldest w) ≡ 255
  unfolding without_oldest
  count_without = refl

  pub records_without : records (without_oldest w) ≡ drop 1 (records w)
  records_without =
      ap (λ (j : ℕ). tabulate j (record_at (without_oldest w))) count_without
      ∙ tabulate_same 255 (record_at (without_oldest w)) (λ (i : ℕ). record_at w (suc i)) left
      ∙ sym (drop_tabulate 255 (record_at w))
      ∙ ap (λ (j : ℕ). drop 1 (tabulate j (record_at w))) (sym c)

  pub size_without : length (without_oldest w) ≡ window_size
  size_without = length_without w l

-- one more than the window holds
one_over : (rs : List Record) (r : Record) → length rs ≡ capacity → newest capacity (rs ++ (r ∷ [])) ≡ drop 1 rs ++ (r ∷ [])
unfolding newest
one_over rs r e =
    let s : length (rs ++ (r ∷ [])) - capacity ≡ 1 = rw (length-append, e) (omega arith)
    in rw s (drop-append-le 1 rs (r ∷ []) (omega arith))

module _ (w : List ℕ) (r : Record) (l : length w ≡ window_size) (h : count_of w ≤ capacity) where
  full : ltb (count_of w) capacity ≡ false → count_of w ≡ capacity
  full t = let b : capacity ≤ count_of w = ltb-false (count_of w) capacity t in omega arith

  pub length_added : length (added w r) ≡ window_size
  unfolding added
  length_added =
      by_test (ltb (count_of w) capacity) (λ t. rw t (length_appended w r l (ltb-true (count_of w) capacity t)))
      (λ t. let c : count_of w ≡ capacity = full t
      in rw t (length_appended (without_oldest w) r (size_without w l c) (rw (count_without w l c) (omega arith))))

  pub count_added : count_of (added w r) ≤ capacity
  unfolding added
  count_added =
      by_test (ltb (count_of w) capacity)
      (λ t. let b : count_of w < capacity = ltb-true (count_of w) capacity t in rw (t, count_appended w r l b) (omega arith))
      (λ t. let c : count_of w ≡ capacity = full t
      in let b : count_of (without_oldest w) < capacity = rw (count_without w l c) (omega arith)
      in rw (t, count_appended (without_oldest w) r (size_without w l c) b, count_without w l c) (omega arith))

  -- the newest 256, oldest first
  pub records_added : records (added w r) ≡ newest capacity (records w ++ (r ∷ []))
  unfolding added
  records_added =
      by_test (ltb (count_of w) capacity)
      (λ t. let b : count_of w < capacity = ltb-true (count_of w) capacity t
      in let s : length (records w ++ (r ∷ [])) ≤ capacity = rw (length-append, length_tabulate) (omega arith)
      in rw t (records_appended w r l b ∙ sym (newest_all capacity (records w ++ (r ∷ [])) s)))
      (λ t. let c : count_of w ≡ capacity = full t
      in let b : count_of (without_oldest w) < capacity = rw (count_without w l c) (omega arith)
      in rw t
      (records_appended (without_oldest w) r (size_without w l c) b ∙ ap (λ (z : List Record). z ++ (r ∷ [])) (records_without w l c) ∙ moved c))
    where
      moved : count_of w ≡ capacity → drop 1 (records w) ++ (r ∷ []) ≡ newest capacity (records w ++ (r ∷ []))
      moved c = sym (one_over (records w) r (length_tabulate (count_of w) (record_at w) ∙ c))

-- a test of every record
module _ (P : Record → Type 0) where
  all_drop : (k : ℕ) (rs : List Record) → All P rs → All P (drop k rs)
  all_drop zero rs h = h
  all_drop (suc k) [] h = tt
  all_drop (suc k) (r ∷ rs) h = all_drop k rs h.1

  all_snoc : (rs : List Record) (r : Record) → All P rs → P r → All P (rs ++ (r ∷ []))
  all_snoc [] r h p = (p, tt)
  all_snoc (s ∷ rs) r h p = (h.0, all_snoc rs r h.1 p)

  all_at : (n : ℕ) (f : ℕ → Record) → All P (tabulate n f) → (i : ℕ) → i < n → P (f i)
  unfolding tabulate
  all_at zero f h i b = absurd (omega arith)
  all_at (suc n) f h zero b = h.0
  all_at (suc n) f h (suc i) b = all_at n (λ (j : ℕ). f (suc j)) h.1 i (omega arith)

-- a window that passes still does with a record in range
pub passes_added : (n : ℕ) (w : List ℕ) (r : Record) → Passes n w → is_in_range n r ≡ true → Passes n (added w r)
unfolding newest
passes_added n w r p t =
    let q : All (λ (x : Record). is_in_range n x ≡ true) (records w) = tabulate_all (λ (x : Record). is_in_range n x ≡ true) (count_of w) (record_at w) p.in_range
    in let s : All (λ (x : Record). is_in_range n x ≡ true) (records (added w r))
    = subst (All (λ (x : Record). is_in_range n x ≡ true)) (sym (records_added w r p.size p.count))
    (all_drop (λ (x : Record). is_in_range n x ≡ true) (length (records w ++ (r ∷ [])) - capacity) (records w ++ (r ∷ [])) (all_snoc (λ (x : Record). is_in_range n x ≡ true) (records w) r q t))
    in record {
      size = length_added w r p.size p.count;
      count = count_added w r p.size p.count;
      in_range = all_at (λ (x : Record). is_in_range n x ≡ true) (count_of (added w r)) (record_at (added w r)) s;
    }
