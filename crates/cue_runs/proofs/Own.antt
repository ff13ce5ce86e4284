-- The cue that is stored in a slot is read from it. Assumes nothing.
use mathlib.Core.Path.{◌≡◌, sym, ap, ◌∙◌}
use mathlib.Core.Logic.{inl}
use Prim.Native.Nat.{ℕ, ◌+◌, ◌<◌, ◌≤◌}
use native.Mathlib.Omega.{arith}
use mathlib.Core.List.{List}
use lib.ListN.{length, get_or, set, length-set}
use lib.Seq.{get_or-set_same, get_or-set_other}
use Rattle.columns.specs.Blocks.{part, splice, length_splice}
use Rattle.le_bytes.specs.LeBytes.{from_le_bytes, to_le_bytes}
use Rattle.le_bytes.proofs.Bytes.{length_le_bytes}
use Rattle.board.specs.Board.{Board, Cue, row_size, number_at, put_number, start_place, writer_place, length_place, row_place, cue_at}
use Rattle.slots.specs.Slots.{put_numbers, put_lengths, put_rows, put_cue}
use Rattle.board.proofs.Lent.{length_put_number}
use Rattle.cue_runs.proofs.Parts.{part_out, part_in, get_is}
use Rattle.cue_runs.proofs.Numbers.{number_again}
use Rattle.cue_runs.proofs.Regions.{Whole, numbered, measured, numbered_board, measured_board, number_out, lengths_out, rows_out}

module _ (k i : ℕ) (h : i < k) (b : List ℕ) (o : Board k b) where
  -- the numbers, just stored
  numbers_in : (start writer : ℕ) → (part (put_numbers k b i start writer) (start_place i) 8 ≡ to_le_bytes 8 start) × (part (put_numbers k b i start writer) (writer_place k i) 8 ≡ to_le_bytes 8 writer)
  unfolding put_numbers
  numbers_in start writer =
      let e : length (put_number b (start_place i) start) ≡ length b = length_put_number b (start_place i) start (omega arith)
      in let l : writer_place k i + 8 ≤ length (put_number b (start_place i) start) = rw e (omega arith)
      in (
        number_out (put_number b (start_place i) start) (writer_place k i) writer (start_place i) 8 l (inl (omega arith))
            ∙ part_in b (start_place i) 8 (to_le_bytes 8 start) (omega arith) (length_le_bytes 8 start),
        part_in (put_number b (start_place i) start) (writer_place k i) 8 (to_le_bytes 8 writer) l (length_le_bytes 8 writer),
      )

  lengths_in : (first second : ℕ) → (get_or (put_lengths k b i first second) (length_place k i 0) 0 ≡ first) × (get_or (put_lengths k b i first second) (length_place k i 1) 0 ≡ second)
  unfolding put_lengths
  lengths_in first second =
      let l : length_place k i 1 < length (set b (length_place k i 0) first) = rw (length-set b (length_place k i 0) first) (omega arith)
      in (
        get_or-set_other (set b (length_place k i 0) first) (length_place k i 1) (length_place k i 0) second 0 (λ e. omega arith)
            ∙ get_or-set_same b (length_place k i 0) first 0 (omega arith),
        get_or-set_same (set b (length_place k i 0) first) (length_place k i 1) second 0 l,
      )

  rows_in : (first second : List ℕ) → length first ≡ row_size → length second ≡ row_size
      → (part (put_rows k b i first second) (row_place k i 0) row_size ≡ first) × (part (put_rows k b i first second) (row_place k i 1) row_size ≡ second)
  unfolding put_rows
  rows_in first second f s =
      let e : length (splice b (row_place k i 0) row_size first) ≡ length b = length_splice b (row_place k i 0) row_size first (omega arith) f
      in let l : row_place k i 1 + row_size ≤ length (splice b (row_place k i 0) row_size first) = rw e (omega arith)
      in (
        part_out (splice b (row_place k i 0) row_size first) (row_place k i 1) row_size second l s (row_place k i 0) row_size (inl (omega arith))
            ∙ part_in b (row_place k i 0) row_size first (omega arith) f,
        part_in (splice b (row_place k i 0) row_size first) (row_place k i 1) row_size second l s,
      )

module _ (k i : ℕ) (h : i < k) (b : List ℕ) (q : Cue) (o : Board k b) (w : Whole q) where
  -- past the rows
  past_rows : (at n : ℕ) → at + n ≤ row_place k i 0 → part (put_cue k b i q) at n ≡ part (measured k b i q) at n
  unfolding put_cue numbered measured
  past_rows at n g = rows_out k i h (measured k b i q) q.first q.second at n (measured_board k i b q o h) w.first_whole w.second_whole (inl g)

  -- past the rows and the lengths
  past_lengths : (at n : ℕ) → at + n ≤ length_place k i 0 → part (put_cue k b i q) at n ≡ part (numbered k b i q) at n
  unfolding measured
  past_lengths at n g = past_rows at n (omega arith) ∙ lengths_out k i h (numbered k b i q) q.first_length q.second_length at n (numbered_board k i b q o h) (inl g)

  length_is : (r : ℕ) → r ≤ 1 → get_or (put_cue k b i q) (length_place k i r) 0 ≡ get_or (measured k b i q) (length_place k i r) 0
  length_is r g =
      get_is (put_cue k b i q) (length_place k i r) ∙ ap (λ (t : List ℕ). get_or t 0 0) (past_rows (length_place k i r) 1 (omega arith))
      ∙ sym (get_is (measured k b i q) (length_place k i r))

  pub own_cue : cue_at k (put_cue k b i q) i ≡ q
  unfolding cue_at put_cue numbered measured
  own_cue =
      let n = numbers_in k i h b o q.start q.writer
      in let l = lengths_in k i h (numbered k b i q) (numbered_board k i b q o h) q.first_length q.second_length
      in let r = rows_in k i h (measured k b i q) (measured_board k i b q o h) q.first q.second w.first_whole w.second_whole
      in let s : number_at (put_cue k b i q) (start_place i) ≡ q.start
      = ap from_le_bytes (past_lengths (start_place i) 8 (omega arith) ∙ n.0) ∙ number_again q.start w.start_word
      in let v : number_at (put_cue k b i q) (writer_place k i) ≡ q.writer
      = ap from_le_bytes (past_lengths (writer_place k i) 8 (omega arith) ∙ n.1) ∙ number_again q.writer w.writer_word
      in let x : get_or (put_cue k b i q) (length_place k i 0) 0 ≡ q.first_length = length_is 0 (omega arith) ∙ l.0
      in let y : get_or (put_cue k b i q) (length_place k i 1) 0 ≡ q.second_length = length_is 1 (omega arith) ∙ l.1
      in λ t. record { start = s t; writer = v t; first_length = x t; second_length = y t; first = r.0 t; second = r.1 t }
