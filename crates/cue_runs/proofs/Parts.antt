-- A part of a list after another part is replaced. Assumes nothing.
use mathlib.Core.Path.{◌≡◌, sym, ap, ◌∙◌}
use mathlib.Core.Logic.{◌⊎◌, inl, inr}
use Prim.Native.Nat.{ℕ, ◌+◌, ◌-◌, ◌<◌, ◌≤◌}
use native.Mathlib.Omega.{arith}
use native.Mathlib.Numerals.{add-one}
use mathlib.Core.List.{List, [], ◌∷◌, ◌++◌, append_assoc}
use lib.ListN.{length, get_or, set, take, drop, length-append, length-drop, take-append-drop}
use lib.Seq.{take-append-le, drop-append-le, drop-append-add, take_at, drop_at, drop-drop, set_split, length-take-le}
use Rattle.columns.specs.Blocks.{part, splice}
use Rattle.columns.proofs.Tabulate.{part_get}

-- n items from at on, and m items from s on, have none in common
abbrev pub Apart : (s m at n : ℕ) → Type 0
Apart s m at n = (at + n ≤ s) ⊎ (s + m ≤ at)

front : (u y : List ℕ) (at n : ℕ) → at + n ≤ length u → part (u ++ y) at n ≡ part u at n
unfolding part
front u y at n h =
    let a : at ≤ length u = omega arith
    in let b : n ≤ length (drop at u) = rw (length-drop at u) (omega arith)
    in rw (drop-append-le at u y a, take-append-le n (drop at u) y b)

back : (u v y : List ℕ) (at n : ℕ) → length u ≤ at → length u ≡ length v → part (u ++ y) at n ≡ part (v ++ y) at n
unfolding part
back u v y at n h e =
    let d : ℕ = at - length u
    in let p : at ≡ length u + d = omega arith
    in let q : at ≡ length v + d = omega arith
    in let x : drop at (u ++ y) ≡ drop d y = ap (λ (j : ℕ). drop j (u ++ y)) p ∙ drop-append-add u y d
    in let z : drop at (v ++ y) ≡ drop d y = ap (λ (j : ℕ). drop j (v ++ y)) q ∙ drop-append-add v y d
    in ap (take n) (x ∙ sym z)

-- m items of b from s on are replaced by x
module _ (b : List ℕ) (s m : ℕ) (x : List ℕ) (h : s + m ≤ length b) (l : length x ≡ m) where
  whole : b ≡ take s b ++ (take m (drop s b) ++ drop m (drop s b))
  whole = sym (ap (λ (t : List ℕ). take s b ++ t) (take-append-drop m (drop s b)) ∙ take-append-drop s b)

  head_length : length (take s b) ≡ s
  head_length = length-take-le s b (omega arith)

  old_length : length (take m (drop s b)) ≡ m
  old_length = length-take-le m (drop s b) (rw (length-drop s b) (omega arith))

  pub part_out : (at n : ℕ) → Apart s m at n → part (splice b s m x) at n ≡ part b at n
  unfolding splice
  part_out at n (inl g) =
      front (take s b) (x ++ drop m (drop s b)) at n (rw head_length g)
      ∙ sym (ap (λ (t : List ℕ). part t at n) (sym (take-append-drop s b)) ∙ front (take s b) (drop s b) at n (rw head_length g))
  part_out at n (inr g) =
      let p : length (take s b ++ x) ≡ s + m = simp (length-append, head_length, l)
      in let q : length (take s b ++ take m (drop s b)) ≡ s + m = simp (length-append, head_length, old_length)
      in ap (λ (t : List ℕ). part t at n) (sym (append_assoc (take s b) x (drop m (drop s b))))
      ∙ back (take s b ++ x) (take s b ++ take m (drop s b)) (drop m (drop s b)) at n (rw p g) (p ∙ sym q)
      ∙ ap (λ (t : List ℕ). part t at n) (append_assoc (take s b) (take m (drop s b)) (drop m (drop s b)) ∙ sym whole)

  pub part_in : part (splice b s m x) s m ≡ x
  unfolding part splice
  part_in = rw (drop_at (take s b) (x ++ drop m (drop s b)) s head_length, take_at x (drop m (drop s b)) m l)

-- one item that is stored is a part of one
pub set_is : (b : List ℕ) (i v : ℕ) → i < length b → set b i v ≡ splice b i 1 (v ∷ [])
unfolding splice
set_is b i v h = set_split b i v h ∙ rw (drop-drop 1 i b, add-one i)

pub get_is : (b : List ℕ) (i : ℕ) → get_or b i 0 ≡ get_or (part b i 1) 0 0
get_is b i = sym (part_get b i 1 0 (omega arith) ∙ ap (λ (j : ℕ). get_or b j 0) (omega arith))
