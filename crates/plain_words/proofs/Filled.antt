-- The part in use of an array that was filled. Assumes nothing.
use mathlib.Core.Path.{◌≡◌, refl, sym, ap, ◌∙◌, subst}
use mathlib.Core.Bool.{Bool, true, false}
use mathlib.Core.List.{List, [], ◌∷◌, ◌++◌, map}
use Prim.Native.Nat.{ℕ, zero, suc, ◌+◌, ◌-◌, ◌<◌, ◌≤◌}
use native.Mathlib.Omega.{arith}
use lib.Dec.{ltb}
use lib.ListN.{length, get_or, take, length-map, replicate, get_or-replicate, get_or-append}
use lib.Seq.{get_or-take, length-take-le, ext_get_or, get_or-append-add}
use borrow.Author.Tests.{ltb-true, ltb-false}
use Rattle.columns.specs.Common.{All, tabulate}
use Rattle.columns.specs.Columns.{pad}
use Rattle.columns.specs.Laws.{length_pad, pad_all}
use Rattle.columns.proofs.Tabulate.{tabulate_is, get_d_past}

-- the part in use, where each place has an item that f gives
module _ {A B : Type 0} (d : A) (g : A → B) (f : ℕ → B) where
  pub filled_map : (k n : ℕ) (l : List A) → length l ≡ k → n ≤ k → ((j : ℕ) → j < n → g (get_or l j d) ≡ f j) → map g (take n l) ≡ tabulate n f
  filled_map k n l h b e =
      let t : length (take n l) ≡ n = length-take-le n l (omega arith) in
      let u : length (map g (take n l)) ≡ n = length-map (take n l) g ∙ t in
      sym
      (subst (λ (y : ℕ). tabulate y f ≡ map g (take n l)) u
      (tabulate_is (g d) (map g (take n l)) f (λ i c. sym (e i (rw u at c)) ∙ sym (map_get (take n l) i ∙ ap g (get_or-take n l i d (rw u at c))))))
    where
      map_get : (xs : List A) (i : ℕ) → get_or (map g xs) i (g d) ≡ g (get_or xs i d)
      map_get [] i = refl
      map_get (x ∷ xs) zero = refl
      map_get (x ∷ xs) (suc i) = map_get xs i

pub filled_is : {A : Type 0} (d : A) (f : ℕ → A) (k n : ℕ) (l : List A) → length l ≡ k → n ≤ k → ((j : ℕ) → j < n → get_or l j d ≡ f j) → take n l ≡ tabulate n f
filled_is d f k n l h b e =
    let t : length (take n l) ≡ n = length-take-le n l (omega arith) in
    sym (subst (λ (y : ℕ). tabulate y f ≡ take n l) t (tabulate_is d (take n l) f (λ i c. sym (e i (rw t at c)) ∙ sym (get_or-take n l i d (rw t at c)))))

-- as a list of such items
pub filled_alike : {A : Type 0} (d : A) (P : A → Type 0) (n : ℕ) (l : List A) → n ≤ length l → ((j : ℕ) → j < n → P (get_or l j d)) → All P (take n l)
filled_alike d P zero l b e = tt
filled_alike d P (suc n) [] b e = absurd (omega arith)
filled_alike d P (suc n) (x ∷ l) b e = (e 0 (omega arith), filled_alike d P n l (omega arith) (λ j c. e (suc j) (omega arith)))

-- a column of 64 words: the list's, then 0
pub column_filled : (xs w : List ℕ) → length xs ≤ 64 → length w ≡ 64 → ((j : ℕ) → j < 64 → get_or w j 0 ≡ get_or xs j 0) → w ≡ pad 64 xs
column_filled xs w b h e =
    ext_get_or 0 w (pad 64 xs) (h ∙ sym (length_pad 64 xs)) (λ i c. e i (rw h at c) ∙ sym (padded i (ltb i (length xs)) refl (rw h at c)))
  where
    padded : (i : ℕ) (t : Bool) → ltb i (length xs) ≡ t → i < 64 → get_or (pad 64 xs) i 0 ≡ get_or xs i 0
    padded i true z c = ap (λ (l : List ℕ). get_or l i 0) (pad_all 64 xs b) ∙ get_or-append xs (replicate (64 - length xs) 0) 0 i (ltb-true i (length xs) z)
    padded i false z c =
        let g : length xs ≤ i = ltb-false i (length xs) z in
        let u : i ≡ length xs + (i - length xs) = omega arith in
        ap (λ (l : List ℕ). get_or l i 0) (pad_all 64 xs b)
        ∙ ap (λ (j : ℕ). get_or (xs ++ replicate (64 - length xs) 0) j 0) u
        ∙ get_or-append-add xs (replicate (64 - length xs) 0) (i - length xs) 0
        ∙ get_or-replicate (64 - length xs) (i - length xs) 0 0 (omega arith)
        ∙ sym (get_d_past xs i 0 g)
