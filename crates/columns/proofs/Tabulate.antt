-- Lists that are found item by item. Assumes nothing.
use mathlib.Core.Path.{◌≡◌, refl, sym, ap, ◌∙◌}
use Prim.Native.Nat.{ℕ, zero, suc, suc-le-suc, ◌+◌, ◌-◌, ◌*◌, ◌<◌, ◌≤◌}
use native.Mathlib.Omega.{arith}
use native.Mathlib.Nat.{mul-zero, mul-suc, add_comm, add_assoc}
use mathlib.Core.Bool.{Bool, true, false}
use lib.Dec.{ltb, eqb}
use borrow.Author.Tests.{ltb-true, ltb-false}
use mathlib.Core.List.{List, [], ◌∷◌, ◌++◌, map, append_assoc}
use lib.ListN.{length, get_or, take, drop, length-drop, take-append-drop, replicate, get_or-replicate, get_or-append}
use lib.Seq.{ext_get_or, drop-drop, get_or-drop, get_or-take, get_or-append-add}
use Rattle.columns.specs.Common.{tabulate, mark}
use Rattle.columns.specs.Columns.{pad}
use Rattle.columns.specs.Laws.{pad_all, length_pad}
use Rattle.columns.specs.Blocks.{cat, part, length_part}

pub tabulate_is : {A : Type 0} (d : A) (xs : List A) (f : ℕ → A) → ((i : ℕ) → i < length xs → f i ≡ get_or xs i d) → tabulate (length xs) f ≡ xs
unfolding tabulate
tabulate_is d [] f h = refl
tabulate_is d (x ∷ xs) f h =
    ap (λ (a : _). a ∷ tabulate (length xs) (λ (i : ℕ). f (suc i))) (h zero (omega arith))
    ∙ ap (λ (l : List _). x ∷ l) (tabulate_is d xs (λ (i : ℕ). f (suc i)) (λ i b. h (suc i) (suc-le-suc b)))

pub length_tabulate : {A : Type 0} (n : ℕ) (f : ℕ → A) → length (tabulate n f) ≡ n
unfolding tabulate
length_tabulate zero f = refl
length_tabulate (suc n) f = ap suc (length_tabulate n (λ (i : ℕ). f (suc i)))

pub get_d_tabulate : {A : Type 0} (n i : ℕ) (f : ℕ → A) (d : A) → i < n → get_or (tabulate n f) i d ≡ f i
unfolding tabulate
get_d_tabulate zero i f d h = absurd (omega arith)
get_d_tabulate (suc n) zero f d h = refl
get_d_tabulate (suc n) (suc i) f d h = get_d_tabulate n i (λ (j : ℕ). f (suc j)) d (omega arith)

pub map_tabulate : {A B : Type 0} (f : A → B) (n : ℕ) (g : ℕ → A) → map f (tabulate n g) ≡ tabulate n (λ (i : ℕ). f (g i))
unfolding tabulate
map_tabulate f zero g = refl
map_tabulate f (suc n) g = ap (λ (l : List _). f (g zero) ∷ l) (map_tabulate f n (λ (i : ℕ). g (suc i)))

pub get_d_map : {A : Type 0} (f : A → ℕ) (q : List A) (i : ℕ) (d : A) → i < length q → get_or (map f q) i 0 ≡ f (get_or q i d)
get_d_map f [] i d h = absurd (omega arith)
get_d_map f (x ∷ xs) zero d h = refl
get_d_map f (x ∷ xs) (suc i) d h = get_d_map f xs i d (omega arith)

-- a word of a part
pub part_get : (b : List ℕ) (s k i : ℕ) → i < k → get_or (part b s k) i 0 ≡ get_or b (s + i) 0
unfolding part
part_get b s k i h = get_or-take k (drop s b) i 0 h ∙ get_or-drop s b i 0

-- a part of a part
pub part_part : (b : List ℕ) (a n s k : ℕ) → a + n ≤ length b → s + k ≤ n → part (part b a n) s k ≡ part b (a + s) k
part_part b a n s k g h =
    ext_get_or 0 (part (part b a n) s k) (part b (a + s) k)
    (length_part (part b a n) s k (rw (length_part b a n g) h) ∙ sym (length_part b (a + s) k (omega arith)))
    (λ i l.
    let j : i < k = rw (length_part (part b a n) s k (rw (length_part b a n g) h)) at l in
    part_get (part b a n) s k i j ∙ part_get b a n (s + i) (omega arith) ∙ rw (← add_assoc) (sym (part_get b (a + s) k i j)))

-- a mark that is 0 or 1
pub mark_word : (x : ℕ) → x ≤ 1 → mark (eqb x 1) ≡ x
mark_word zero h = refl
mark_word (suc zero) h = refl
mark_word (suc (suc x)) h = absurd (omega arith)

pub nil_is : (w : List ℕ) → length w ≡ 0 → [] ≡ w
nil_is [] h = refl
nil_is (x ∷ xs) h = absurd (omega arith)

-- blocks that are found one by one are the list, or its front
module _ {A : Type 0} (f : A → List ℕ) (k : ℕ) (fk : (x : A) → length (f x) ≡ k) where
  pub cat_front : (n : ℕ) (g : ℕ → A) (w : List ℕ) → ((i : ℕ) → i < n → f (g i) ≡ part w (k * i) k) → cat f k fk (tabulate n g) ++ drop (k * n) w ≡ w
  unfolding cat tabulate part
  cat_front zero g w e = rw (mul-zero k)
  cat_front (suc n) g w e =
      let a : f (g zero) ≡ take k w = rw (mul-zero k) at (e zero (omega arith))
      in let r : cat f k fk (tabulate n (λ (i : ℕ). g (suc i))) ++ drop (k * n) (drop k w) ≡ drop k w
      = cat_front n (λ (i : ℕ). g (suc i)) (drop k w) (λ i b. e (suc i) (suc-le-suc b) ∙ rw (drop-drop, mul-suc, add_comm k (k * i)))
      in let d : drop (k * suc n) w ≡ drop (k * n) (drop k w) = rw (drop-drop, mul-suc, add_comm k (k * n))
      in rw (a, d, append_assoc, r, take-append-drop)

  pub cat_tabulate : (n : ℕ) (g : ℕ → A) (w : List ℕ) → length w ≡ k * n → ((i : ℕ) → i < n → f (g i) ≡ part w (k * i) k) → cat f k fk (tabulate n g) ≡ w
  unfolding cat tabulate part
  cat_tabulate zero g w h e = nil_is w (h ∙ mul-zero k)
  cat_tabulate (suc n) g w h e =
      let l : length w ≡ k * n + k = h ∙ mul-suc k n
      in let r : length (drop k w) ≡ k * n = rw (length-drop) (omega arith)
      in let a : f (g zero) ≡ take k w = rw (mul-zero k) at (e zero (omega arith))
      in rw a
      (ap (λ (t : List ℕ). take k w ++ t)
      (cat_tabulate n (λ (i : ℕ). g (suc i)) (drop k w) r (λ i b. e (suc i) (suc-le-suc b) ∙ rw (drop-drop, mul-suc, add_comm k (k * i)))) ∙ take-append-drop k w)

-- a column that is found word by word, where the words from n on are 0
module _ (b : List ℕ) (s n : ℕ) (l : s + 64 ≤ length b) (h : n ≤ 64) (z : (i : ℕ) → n ≤ i → i < 64 → get_or b (s + i) 0 ≡ 0) where
  abbrev at : ℕ → ℕ
  at i = get_or b (s + i) 0

  padded : pad 64 (tabulate n at) ≡ tabulate n at ++ replicate (64 - n) 0
  padded =
      let t : length (tabulate n at) ≤ 64 = rw (length_tabulate n at) h
      in pad_all 64 (tabulate n at) t ∙ rw (length_tabulate n at)

  inside : (i : ℕ) → i < n → get_or (tabulate n at ++ replicate (64 - n) 0) i 0 ≡ at i
  inside i g =
      let t : i < length (tabulate n at) = rw (length_tabulate n at) g
      in get_or-append (tabulate n at) (replicate (64 - n) 0) 0 i t ∙ get_d_tabulate n i at 0 g

  outside : (i : ℕ) → n ≤ i → i < 64 → get_or (tabulate n at ++ replicate (64 - n) 0) i 0 ≡ at i
  outside i g k =
      let t : i ≡ length (tabulate n at) + (i - n) = rw (length_tabulate n at) (omega arith)
      in let u : i - n < 64 - n = omega arith
      in ap (λ (j : ℕ). get_or (tabulate n at ++ replicate (64 - n) 0) j 0) t
      ∙ get_or-append-add (tabulate n at) (replicate (64 - n) 0) (i - n) 0
      ∙ get_or-replicate (64 - n) (i - n) 0 0 u
      ∙ sym (z i g k)

  same : (i : ℕ) → i < 64 → get_or (pad 64 (tabulate n at)) i 0 ≡ get_or (part b s 64) i 0
  unfolding part
  same i g = rw padded (cases (ltb i n) refl ∙ sym (get_or-take 64 (drop s b) i 0 g ∙ get_or-drop s b i 0))
    where
      cases : (t : Bool) → ltb i n ≡ t → get_or (tabulate n at ++ replicate (64 - n) 0) i 0 ≡ at i
      cases true e = inside i (ltb-true i n e)
      cases false e = outside i (ltb-false i n e) g

  pub column_is : pad 64 (tabulate n at) ≡ part b s 64
  column_is =
      ext_get_or 0 (pad 64 (tabulate n at)) (part b s 64) (length_pad 64 (tabulate n at) ∙ sym (length_part b s 64 l))
      (λ i g. same i (rw (length_pad) at g))

-- there is no item i
pub get_d_past : {A : Type 0} (l : List A) (i : ℕ) (d : A) → length l ≤ i → get_or l i d ≡ d
get_d_past [] i d h = refl
get_d_past (x ∷ xs) zero d h = absurd (omega arith)
get_d_past (x ∷ xs) (suc i) d h = get_d_past xs i d (omega arith)
