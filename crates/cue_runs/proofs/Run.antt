-- First in, first out: of every run, by its calls one after the other. Assumes nothing.
use mathlib.Core.Path.{◌≡◌, refl, sym, ap, ◌∙◌}
use mathlib.Core.Bool.{true}
use Prim.Native.Nat.{ℕ, ◌+◌, ◌≤◌}
use native.Mathlib.Omega.{arith}
use mathlib.Core.List.{List, [], ◌∷◌, ◌++◌, append_assoc}
use lib.ListN.{length, take, drop, length-append, length-drop}
use lib.Seq.{take-append-le, drop-append-le, take-add, drop-drop}
use Rattle.columns.specs.Common.{All, tabulate}
use Rattle.board.specs.Board.{Cue, is_sized, handed_out, cue_at, capacity, cues}
use Rattle.board.proofs.Sized.{sized_is}
use Rattle.cue_runs.specs.Runs.{Call, Words, after, brought, handed, all_brought, all_handed, FirstInFirstOut}
use Rattle.cue_runs.proofs.Advance.{Advance}
use Rattle.cue_runs.proofs.Calls.{call_advances}

take_front : (l y : List Cue) (h n : ℕ) → h + n ≤ length l → take n (drop h (l ++ y)) ≡ take n (drop h l)
take_front l y h n g =
    let a : h ≤ length l = omega arith
    in let c : n ≤ length (drop h l) = rw (length-drop h l) (omega arith)
    in rw (drop-append-le h l y a, take-append-le n (drop h l) y c)

-- what a call handed out, and then the rest
joined : (b b' : List ℕ) (B H : List Cue) → Advance b b' B H → (X R : List Cue) → R ≡ take (length R) (drop (handed_out b') (cues b' ++ X))
    → H ++ R ≡ take (length (H ++ R)) (drop (handed_out b) (cues b ++ (B ++ X)))
joined b b' B H a X R e =
    let Z : List Cue = cues b ++ (B ++ X)
    in let h : ℕ = handed_out b
    in let z : cues b' ++ X ≡ Z = rw a.line (append_assoc (cues b) B X)
    in let r : R ≡ take (length R) (drop (h + length H) Z) = e ∙ rw (z, a.moved)
    in let f : H ≡ take (length H) (drop h Z) = a.right ∙ sym (take_front (cues b) (B ++ X) h (length H) a.there)
    in let d : take (length R) (drop (length H) (drop h Z)) ≡ R = ap (take (length R)) (drop-drop (length H) h Z) ∙ sym r
    in sym
    (ap (λ (n : ℕ). take n (drop h Z)) (length-append H R)
    ∙ take-add (length H) (length R) (drop h Z)
    ∙ ap (λ (l : List Cue). l ++ take (length R) (drop (length H) (drop h Z))) (sym f)
    ∙ ap (λ (l : List Cue). H ++ l) d)

-- on a board that may hold cues already
in_order : (b : List ℕ) → is_sized b ≡ true → (calls : List Call) → All Words calls
    → all_handed b calls ≡ take (length (all_handed b calls)) (drop (handed_out b) (cues b ++ all_brought b calls))
unfolding all_handed all_brought
in_order b s [] w = refl
in_order b s (c ∷ calls) w =
    let a = call_advances b s c w.0
    in joined b (after b c) (brought b c) (handed b c) a (all_brought (after b c) calls) (all_handed (after b c) calls) (in_order (after b c) a.sized calls w.1)

pub first_in_first_out : FirstInFirstOut
unfolding cues tabulate
first_in_first_out b e calls w =
    let h : handed_out b ≡ 0 = omega (arith, (sized_is b e.sized).handed, e.none)
    in let l : cues b ≡ [] = ap (λ (n : ℕ). tabulate n (cue_at (capacity b) b)) e.none
    in in_order b e.sized calls w ∙ rw (h, l)
