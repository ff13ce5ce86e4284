-- A cue that is stored is read again, and the others are as before. Assumes nothing.
use mathlib.Core.Path.{◌≡◌, sym, ap, ◌∙◌}
use mathlib.Core.Logic.{inl, inr}
use Prim.Native.Nat.{ℕ, ◌+◌, ◌*◌, ◌<◌, ◌≤◌}
use native.Mathlib.Omega.{arith}
use mathlib.Core.List.{List}
use lib.ListN.{get_or}
use Rattle.columns.specs.Blocks.{part}
use Rattle.le_bytes.specs.LeBytes.{from_le_bytes}
use Rattle.board.specs.Board.{Board, Cue, header_size, row_size, number_at, put_number, start_place, writer_place, length_place, row_place, cue_at}
use Rattle.slots.specs.Slots.{put_cue}
use Rattle.cue_runs.proofs.Parts.{Apart, get_is}
use Rattle.cue_runs.proofs.Regions.{Whole, number_out, cue_out}

-- cue j, where its places hold the same bytes
cue_same : (k j : ℕ) (b b' : List ℕ) → part b' (start_place j) 8 ≡ part b (start_place j) 8 → part b' (writer_place k j) 8 ≡ part b (writer_place k j) 8
    → part b' (length_place k j 0) 1 ≡ part b (length_place k j 0) 1 → part b' (length_place k j 1) 1 ≡ part b (length_place k j 1) 1
    → part b' (row_place k j 0) row_size ≡ part b (row_place k j 0) row_size → part b' (row_place k j 1) row_size ≡ part b (row_place k j 1) row_size
    → cue_at k b' j ≡ cue_at k b j
unfolding cue_at
cue_same k j b b' s w l m f g =
    let x : get_or b' (length_place k j 0) 0 ≡ get_or b (length_place k j 0) 0 = get_is b' (length_place k j 0) ∙ ap (λ (t : List ℕ). get_or t 0 0) l ∙ sym (get_is b (length_place k j 0))
    in let y : get_or b' (length_place k j 1) 0 ≡ get_or b (length_place k j 1) 0 = get_is b' (length_place k j 1) ∙ ap (λ (t : List ℕ). get_or t 0 0) m ∙ sym (get_is b (length_place k j 1))
    in λ t. record { start = from_le_bytes (s t); writer = from_le_bytes (w t); first_length = x t; second_length = y t; first = f t; second = g t }

-- another size leaves every cue
pub size_cue : (k j : ℕ) (b : List ℕ) (s x : ℕ) → Board k b → s + 8 ≤ header_size → cue_at k (put_number b s x) j ≡ cue_at k b j
size_cue k j b s x o h =
    cue_same k j b (put_number b s x) (out (start_place j) 8 (omega arith)) (out (writer_place k j) 8 (omega arith)) (out (length_place k j 0) 1 (omega arith))
    (out (length_place k j 1) 1 (omega arith)) (out (row_place k j 0) row_size (omega arith)) (out (row_place k j 1) row_size (omega arith))
  where
    out : (at n : ℕ) → header_size ≤ at → part (put_number b s x) at n ≡ part b at n
    out at n g = number_out b s x at n (omega (arith, o.size)) (inr (omega arith))

-- slot i of k gets q
module _ (k i : ℕ) (h : i < k) (b : List ℕ) (q : Cue) (o : Board k b) (w : Whole q) where
  out : (at n : ℕ) → Apart (start_place i) 8 at n → Apart (writer_place k i) 8 at n → Apart (length_place k i 0) 2 at n → Apart (row_place k i 0) (2 * row_size) at n
      → part (put_cue k b i q) at n ≡ part b at n
  out = cue_out k i h b q o w

  pub earlier_cue : (j : ℕ) → j < i → cue_at k (put_cue k b i q) j ≡ cue_at k b j
  earlier_cue j g =
      cue_same k j b (put_cue k b i q)
      (out (start_place j) 8 (inl (omega arith)) (inl (omega arith)) (inl (omega arith)) (inl (omega arith)))
      (out (writer_place k j) 8 (inr (omega arith)) (inl (omega arith)) (inl (omega arith)) (inl (omega arith)))
      (out (length_place k j 0) 1 (inr (omega arith)) (inr (omega arith)) (inl (omega arith)) (inl (omega arith)))
      (out (length_place k j 1) 1 (inr (omega arith)) (inr (omega arith)) (inl (omega arith)) (inl (omega arith)))
      (out (row_place k j 0) row_size (inr (omega arith)) (inr (omega arith)) (inr (omega arith)) (inl (omega arith)))
      (out (row_place k j 1) row_size (inr (omega arith)) (inr (omega arith)) (inr (omega arith)) (inl (omega arith)))

  -- the sizes stay
  pub size_stays : (s : ℕ) → s + 8 ≤ header_size → number_at (put_cue k b i q) s ≡ number_at b s
  size_stays s g = ap from_le_bytes (out s 8 (inl (omega arith)) (inl (omega arith)) (inl (omega arith)) (inl (omega arith)))
