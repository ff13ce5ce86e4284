-- A record added to the words of a window. Assumes nothing.
use mathlib.Core.Path.{◌≡◌, refl, sym, ap, ◌∙◌, subst}
use Prim.Native.Nat.{ℕ, suc, ◌+◌, ◌<◌, ◌≤◌}
use native.Mathlib.Omega.{arith}
use mathlib.Core.List.{List, [], ◌∷◌, ◌++◌, append-nil}
use lib.ListN.{length, set, take, drop, length-append, length-drop, take-append-drop}
use lib.Seq.{split_at, drop-drop, take_all, length-slice}
use Rattle.columns.specs.Columns.{column_remove}
use Rattle.columns.specs.Blocks.{part, splice, part_mid, splice_mid, length_part}
use Rattle.window.specs.declared.Record.{Record}
use Rattle.window.specs.Window.{capacity, window_size, count_of, appended, without_oldest, added}

-- count and one: the count and the one after it, as the code has them
pub appends : (w : List ℕ) (r : Record) (count one : ℕ) → count ≡ count_of w → one ≡ count + 1
    → set (set (set w 0 one) (1 + count) r.context) (257 + count) r.time ≡ appended w r
unfolding appended
appends w r count one e f = rw (f, e)

-- a window is its count and two columns
module _ (w : List ℕ) (l : length w ≡ window_size) where
  pub contexts_size : length (part w 1 256) ≡ 256
  contexts_size = length_part w 1 256 (omega arith)

  pub times_size : length (part w 257 256) ≡ 256
  times_size = length_part w 257 256 (omega arith)

  pub cut : w ≡ count_of w ∷ (part w 1 256 ++ part w 257 256)
  unfolding part
  cut =
      let t : length (drop 257 w) ≤ 256 = rw (length-drop) (omega arith)
      in split_at w 0 0 (omega arith)
      ∙ ap (λ (z : List ℕ). count_of w ∷ z) (sym (take-append-drop 256 (drop 1 w)))
      ∙ ap (λ (z : List ℕ). count_of w ∷ (take 256 (drop 1 w) ++ z)) (drop-drop 256 1 w ∙ sym (take_all 256 (drop 257 w) t))

module _ (c : ℕ) (a b : List ℕ) (ha : length a ≡ 256) (hb : length b ≡ 256) where
  ends : a ++ (b ++ []) ≡ a ++ b
  ends = ap (λ (z : List ℕ). a ++ z) (append-nil b)

  first_spliced : (x : List ℕ) → splice (c ∷ (a ++ b)) 1 256 x ≡ c ∷ (x ++ b)
  first_spliced x = splice_mid (c ∷ []) a b 1 256 refl ha x

  second_part : part (c ∷ (a ++ b)) 257 256 ≡ b
  second_part = subst (λ (z : List ℕ). part (c ∷ z) 257 256 ≡ b) ends (part_mid (c ∷ a) b [] 257 256 (ap suc ha) hb)

  second_spliced : (x : List ℕ) → splice (c ∷ (a ++ b)) 257 256 x ≡ c ∷ (a ++ x)
  second_spliced x =
      subst (λ (z : List ℕ). splice (c ∷ z) 257 256 x ≡ c ∷ (a ++ x)) ends
      (splice_mid (c ∷ a) b [] 257 256 (ap suc ha) hb x ∙ ap (λ (z : List ℕ). c ∷ (a ++ z)) (append-nil x))

pub length_removed : (a : List ℕ) → length a ≡ 256 → length (column_remove a 256 0) ≡ 256
unfolding column_remove
length_removed a h = simp (length-append, length-slice 1 256 a (omega arith), length-drop) (omega arith)

pub length_without : (w : List ℕ) → length w ≡ window_size → length (without_oldest w) ≡ window_size
unfolding without_oldest
length_without w l =
    simp (length-append, length_removed (part w 1 256) (contexts_size w l), length_removed (part w 257 256) (times_size w l))

-- x and y: the columns as the code has them
module _ (w x y : List ℕ) (l : length w ≡ window_size) (e : x ≡ column_remove (part w 1 256) 256 0) where
  abbrev contexts_moved : List ℕ
  contexts_moved = splice w 1 256 x

  x_size : length x ≡ 256
  x_size = ap length e ∙ length_removed (part w 1 256) (contexts_size w l)

  moved_is : contexts_moved ≡ count_of w ∷ (x ++ part w 257 256)
  moved_is =
      ap (λ (z : List ℕ). splice z 1 256 x) (cut w l)
      ∙ first_spliced (count_of w) (part w 1 256) (part w 257 256) (contexts_size w l) (times_size w l) x

  times_there : part contexts_moved 257 256 ≡ part w 257 256
  times_there = ap (λ (z : List ℕ). part z 257 256) moved_is ∙ second_part (count_of w) x (part w 257 256) x_size (times_size w l)

  pub drops : (n : ℕ) → n ≡ 255 → y ≡ column_remove (part contexts_moved 257 256) 256 0 → set (splice contexts_moved 257 256 y) 0 n ≡ without_oldest w
  unfolding without_oldest
  drops n h f =
      ap (λ (z : List ℕ). set (splice z 257 256 y) 0 n) moved_is
      ∙ ap (λ (z : List ℕ). set z 0 n) (second_spliced (count_of w) x (part w 257 256) x_size (times_size w l) y)
      ∙ (λ j. h j ∷ (e j ++ (f ∙ ap (λ (z : List ℕ). column_remove z 256 0) times_there) j))

  pub drops_size : (n : ℕ) → n ≡ 255 → y ≡ column_remove (part contexts_moved 257 256) 256 0 → length (set (splice contexts_moved 257 256 y) 0 n) ≡ length w
  drops_size n h f = ap length (drops n h f) ∙ length_without w l ∙ sym l

pub moved_count : (w v : List ℕ) → v ≡ without_oldest w → count_of v < capacity
unfolding without_oldest
moved_count w v f = rw f (omega arith)
