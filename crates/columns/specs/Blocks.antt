-- Lists made of blocks of one size, and a part of a list that is read or replaced.
use Rattle.std.specs.Prelude.{◌≡◌, ℕ, suc, ◌+◌, ◌-◌, ◌*◌, ◌<◌, ◌≤◌, take, drop}
use Rattle.std.proofs.Math.Path.{refl, sym, ap}
use Rattle.std.proofs.Common.{◌∙◌, arith, mul-zero, mul-suc, length-append, length-take, length-drop, length-set, length-take-le, get_or-drop, get_or-take}
use mathlib.Core.List.{List, [], ◌∷◌, ◌++◌, append_assoc}
use Rattle.std.proofs.Math.ListN.{length, get_or, set, replicate, get_or-append}
use borrow.Rule.Slice.PartMut.{put_mid, set_mid_at}
use Rattle.columns.specs.Columns.{pad, column_insert, column_remove, insert_at, remove_at}
use Rattle.columns.specs.Laws.{length_pad, pad_all, ins_pad, rem_pad}
use Rattle.std.proofs.Math.Seq.{take_at, drop_at, split_at, set_split}
use Rattle.std.proofs.lemmas.List.{set-append_left}

-- the words from s on, k of them; and the list with x in their place
unfoldable pub part : List ℕ → ℕ → ℕ → List ℕ
part m s k = take k (drop s m)

unfoldable pub splice : List ℕ → ℕ → ℕ → List ℕ → List ℕ
splice m s k x = take s m ++ (x ++ drop k (drop s m))

module _ (p b q : List ℕ) (s k : ℕ) (hp : length p ≡ s) (hb : length b ≡ k) where
  pub part_mid : part (p ++ (b ++ q)) s k ≡ b
  unfolding part
  part_mid = rw (drop_at p (b ++ q) s hp, take_at b q k hb)

  pub splice_mid : (x : List ℕ) → splice (p ++ (b ++ q)) s k x ≡ p ++ (x ++ q)
  unfolding splice
  splice_mid x = rw (take_at p (b ++ q) s hp, drop_at p (b ++ q) s hp, drop_at b q k hb)

-- a part that the code lends, `&m[a..e]`, and the list when a `&mut m[a..e]` is back
pub part_is : (m : List ℕ) (a e k : ℕ) → e ≡ a + k → take (e - a) (drop a m) ≡ part m a k
unfolding part
part_is m a e k h = let g : e - a ≡ k = omega arith in rw g

pub splice_is : (m : List ℕ) (a e k : ℕ) (x : List ℕ) → e ≡ a + k → put_mid a (e - a) m x ≡ splice m a k x
unfolding splice
splice_is m a e k x h = let g : e - a ≡ k = omega arith in rw g

pub length_part : (m : List ℕ) (a k : ℕ) → a + k ≤ length m → length (part m a k) ≡ k
unfolding part
length_part m a k h = simp (length-take, length-drop) (omega arith)

pub length_splice : (m : List ℕ) (a k : ℕ) (x : List ℕ) → a + k ≤ length m → length x ≡ k → length (splice m a k x) ≡ length m
unfolding splice
length_splice m a k x h g = simp (length-append, length-take, length-drop) (omega arith)

module _ {A : Type 0} (f : A → List ℕ) (k : ℕ) (fk : (x : A) → length (f x) ≡ k) where
  unfoldable pub cat : List A → List ℕ
  cat [] = []
  cat (x ∷ xs) = f x ++ cat xs

  pub length_cat : (xs : List A) → length (cat xs) ≡ k * length xs
  unfolding cat
  length_cat [] = sym (mul-zero k)
  length_cat (x ∷ xs) = rw (length-append, fk, length_cat xs, mul-suc) (omega arith)

  pub cat_append : (xs ys : List A) → cat (xs ++ ys) ≡ cat xs ++ cat ys
  unfolding cat
  cat_append [] ys = refl
  cat_append (x ∷ xs) ys = rw (cat_append xs ys, append_assoc)

  -- block i of a run of blocks that starts at s
  module _ (pre post : List ℕ) (xs : List A) (s i : ℕ) (hp : length pre ≡ s) (h : i < length xs) where
    at_length : length (pre ++ cat (take i xs)) ≡ s + k * i
    at_length = rw (length-append, hp, length_cat, length-take-le i xs (omega arith))

    cut : (d : A) → pre ++ (cat xs ++ post) ≡ (pre ++ cat (take i xs)) ++ (f (get_or xs i d) ++ (cat (drop (suc i) xs) ++ post))
    unfolding cat
    cut d = ap (λ (l : List A). pre ++ (cat l ++ post)) (split_at xs i d h) ∙ rw (cat_append) (simp append_assoc)

    pub block_part : (d : A) → part (pre ++ (cat xs ++ post)) (s + k * i) k ≡ f (get_or xs i d)
    block_part d = rw (cut d) (part_mid (pre ++ cat (take i xs)) (f (get_or xs i d)) (cat (drop (suc i) xs) ++ post) (s + k * i) k at_length (fk (get_or xs i d)))

    pub block_splice : (x d : A) → splice (pre ++ (cat xs ++ post)) (s + k * i) k (f x) ≡ pre ++ (cat (set xs i x) ++ post)
    unfolding cat
    block_splice x d =
        rw (cut d, splice_mid (pre ++ cat (take i xs)) (f (get_or xs i d)) (cat (drop (suc i) xs) ++ post) (s + k * i) k at_length (fk (get_or xs i d)) (f x), set_split xs i x h, cat_append) (simp append_assoc)

-- columns of 64 words each, one after the other
unfoldable pub flat : List (List ℕ) → List ℕ
flat cols = cat (pad 64) 64 (length_pad 64) cols

pub length_flat : (cols : List (List ℕ)) → length (flat cols) ≡ 64 * length cols
unfolding flat
length_flat cols = length_cat (pad 64) 64 (length_pad 64) cols

-- column j, after pre and with post behind the last one
module _ (pre post : List ℕ) (cols : List (List ℕ)) (s j : ℕ) (hp : length pre ≡ s) (h : j < length cols) where
  pub col_part : part (pre ++ (flat cols ++ post)) (s + 64 * j) 64 ≡ pad 64 (get_or cols j [])
  unfolding flat
  col_part = block_part (pad 64) 64 (length_pad 64) pre post cols s j hp h []

  pub col_splice : (x : List ℕ) → splice (pre ++ (flat cols ++ post)) (s + 64 * j) 64 (pad 64 x) ≡ pre ++ (flat (set cols j x) ++ post)
  unfolding flat
  col_splice x = block_splice (pad 64) 64 (length_pad 64) pre post cols s j hp h x []

  -- a word put into column j, or taken out of it
  pub col_insert : (n p v : ℕ) → length (get_or cols j []) ≡ n → p ≤ n → n < 64 → splice (pre ++ (flat cols ++ post)) (s + 64 * j) 64 (column_insert (part (pre ++ (flat cols ++ post)) (s + 64 * j) 64) n p v) ≡ pre ++ (flat (set cols j (insert_at p v (get_or cols j []))) ++ post)
  col_insert n p v e b g = rw (col_part, ← e, ins_pad 64 (get_or cols j []) p v (rw e b) (rw e g)) (col_splice (insert_at p v (get_or cols j [])))

  pub col_remove : (n p : ℕ) → length (get_or cols j []) ≡ n → p < n → n ≤ 64 → splice (pre ++ (flat cols ++ post)) (s + 64 * j) 64 (column_remove (part (pre ++ (flat cols ++ post)) (s + 64 * j) 64) n p) ≡ pre ++ (flat (set cols j (remove_at p (get_or cols j []))) ++ post)
  col_remove n p e b g = rw (col_part, ← e, rem_pad 64 (get_or cols j []) p (rw e b) (rw e g)) (col_splice (remove_at p (get_or cols j [])))

  -- a word of column j is read, or written
  pub col_get : (i : ℕ) → i < length (get_or cols j []) → length (get_or cols j []) ≤ 64 → get_or (pre ++ (flat cols ++ post)) (s + 64 * j + i) 0 ≡ get_or (get_or cols j []) i 0
  unfolding part
  col_get i b g =
      sym (get_or-drop (s + 64 * j) (pre ++ (flat cols ++ post)) i 0)
      ∙ sym (get_or-take 64 (drop (s + 64 * j) (pre ++ (flat cols ++ post))) i 0 (omega arith))
      ∙ ap (λ (l : List ℕ). get_or l i 0) (col_part ∙ pad_all 64 (get_or cols j []) g)
      ∙ get_or-append (get_or cols j []) (replicate (64 - length (get_or cols j [])) 0) 0 i b

  pub col_set : (i v : ℕ) → i < length (get_or cols j []) → length (get_or cols j []) ≤ 64 → set (pre ++ (flat cols ++ post)) (s + 64 * j + i) v ≡ pre ++ (flat (set cols j (set (get_or cols j []) i v)) ++ post)
  unfolding part splice
  col_set i v b g =
      let inside : i < length (take 64 (drop (s + 64 * j) (pre ++ (flat cols ++ post)))) = rw (col_part, length_pad) (omega arith)
      in let written : set (get_or cols j [] ++ replicate (64 - length (get_or cols j [])) 0) i v ≡ pad 64 (set (get_or cols j []) i v)
      = rw (pad_all 64 (set (get_or cols j []) i v) (rw (length-set) g), length-set) (set-append_left (get_or cols j []) (replicate (64 - length (get_or cols j [])) 0) i v b)
      in sym (set_mid_at (s + 64 * j) 64 i (pre ++ (flat cols ++ post)) v inside)
      ∙ ap (λ (l : List ℕ). splice (pre ++ (flat cols ++ post)) (s + 64 * j) 64 (set l i v)) (col_part ∙ pad_all 64 (get_or cols j []) g)
      ∙ ap (λ (l : List ℕ). splice (pre ++ (flat cols ++ post)) (s + 64 * j) 64 l) written
      ∙ col_splice (set (get_or cols j []) i v)
