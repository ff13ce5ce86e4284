-- What the stores of a cue leave of the rest of the board. Assumes nothing.
use mathlib.Core.Path.{◌≡◌, refl, ◌∙◌}
use mathlib.Core.Logic.{inl, inr}
use Prim.Native.Nat.{ℕ, ◌+◌, ◌*◌, ◌<◌, ◌≤◌}
use native.Mathlib.Omega.{arith}
use mathlib.Core.List.{List, [], ◌∷◌}
use lib.ListN.{length, set, length-set}
use Rattle.numbers.specs.Limits.{word_range}
use Rattle.columns.specs.Blocks.{part, splice, length_splice}
use Rattle.le_bytes.specs.LeBytes.{to_le_bytes}
use Rattle.le_bytes.proofs.Bytes.{length_le_bytes}
use Rattle.board.specs.Board.{Board, Cue, row_size, put_number, start_place, writer_place, length_place, row_place}
use Rattle.slots.specs.Slots.{put_numbers, put_lengths, put_rows, put_cue}
use Rattle.board.proofs.Lent.{length_put_number}
use Rattle.cue_runs.proofs.Parts.{Apart, part_out, set_is}

-- a cue whose numbers are words and whose rows are whole
pub record Whole (q : Cue) : Type 0 where
  pub start_word : q.start < word_range
  pub writer_word : q.writer < word_range
  pub first_whole : length q.first ≡ row_size
  pub second_whole : length q.second ≡ row_size

within : (s m s' m' at n : ℕ) → s ≤ s' → s' + m' ≤ s + m → Apart s m at n → Apart s' m' at n
within s m s' m' at n h g (inl a) = inl (omega arith)
within s m s' m' at n h g (inr a) = inr (omega arith)

pub number_out : (b : List ℕ) (s x at n : ℕ) → s + 8 ≤ length b → Apart s 8 at n → part (put_number b s x) at n ≡ part b at n
number_out b s x at n h a = part_out b s 8 (to_le_bytes 8 x) h (length_le_bytes 8 x) at n a

set_out : (b : List ℕ) (i v at n : ℕ) → i < length b → Apart i 1 at n → part (set b i v) at n ≡ part b at n
set_out b i v at n h a = rw (set_is b i v h) (part_out b i 1 (v ∷ []) (omega arith) refl at n a)

-- the stores of a cue's numbers and lengths leave a board
numbers_board : (k : ℕ) (b : List ℕ) (i start writer : ℕ) → Board k b → i < k → Board k (put_numbers k b i start writer)
unfolding put_numbers
numbers_board k b i start writer o h =
    let e : length (put_number b (start_place i) start) ≡ length b = length_put_number b (start_place i) start (omega arith)
    in let f : length (put_number (put_number b (start_place i) start) (writer_place k i) writer) ≡ length (put_number b (start_place i) start)
    = length_put_number (put_number b (start_place i) start) (writer_place k i) writer (rw e (omega arith))
    in record { size = f ∙ e ∙ o.size; most = o.most }

lengths_board : (k : ℕ) (b : List ℕ) (i first second : ℕ) → Board k b → Board k (put_lengths k b i first second)
unfolding put_lengths
lengths_board k b i first second o = record { size = simp length-set o.size; most = o.most }

-- the board of k cues with the numbers of q in slot i; and with the lengths of its rows
unfoldable pub numbered : ℕ → List ℕ → ℕ → Cue → List ℕ
numbered k b i q = put_numbers k b i q.start q.writer

unfoldable pub measured : ℕ → List ℕ → ℕ → Cue → List ℕ
measured k b i q = put_lengths k (numbered k b i q) i q.first_length q.second_length

pub numbered_board : (k i : ℕ) (b : List ℕ) (q : Cue) → Board k b → i < k → Board k (numbered k b i q)
unfolding numbered
numbered_board k i b q o h = numbers_board k b i q.start q.writer o h

pub measured_board : (k i : ℕ) (b : List ℕ) (q : Cue) → Board k b → i < k → Board k (measured k b i q)
unfolding measured
measured_board k i b q o h = lengths_board k (numbered k b i q) i q.first_length q.second_length (numbered_board k i b q o h)

-- in slot i
module _ (k i : ℕ) (h : i < k) where
  pub numbers_out : (b : List ℕ) (start writer at n : ℕ) → Board k b → Apart (start_place i) 8 at n → Apart (writer_place k i) 8 at n
      → part (put_numbers k b i start writer) at n ≡ part b at n
  unfolding put_numbers
  numbers_out b start writer at n o s w =
      let e : length (put_number b (start_place i) start) ≡ length b = length_put_number b (start_place i) start (omega arith)
      in number_out (put_number b (start_place i) start) (writer_place k i) writer at n (rw e (omega arith)) w
      ∙ number_out b (start_place i) start at n (omega arith) s

  pub lengths_out : (b : List ℕ) (first second at n : ℕ) → Board k b → Apart (length_place k i 0) 2 at n → part (put_lengths k b i first second) at n ≡ part b at n
  unfolding put_lengths
  lengths_out b first second at n o a =
      let l : length_place k i 1 < length (set b (length_place k i 0) first) = rw (length-set b (length_place k i 0) first) (omega arith)
      in set_out (set b (length_place k i 0) first) (length_place k i 1) second at n l (within _ _ _ _ at n (omega arith) (omega arith) a)
      ∙ set_out b (length_place k i 0) first at n (omega arith) (within _ _ _ _ at n (omega arith) (omega arith) a)

  pub rows_out : (b first second : List ℕ) (at n : ℕ) → Board k b → length first ≡ row_size → length second ≡ row_size → Apart (row_place k i 0) (2 * row_size) at n
      → part (put_rows k b i first second) at n ≡ part b at n
  unfolding put_rows
  rows_out b first second at n o f s a =
      let e : length (splice b (row_place k i 0) row_size first) ≡ length b = length_splice b (row_place k i 0) row_size first (omega arith) f
      in part_out (splice b (row_place k i 0) row_size first) (row_place k i 1) row_size second (rw e (omega arith)) s at n (within _ _ _ _ at n (omega arith) (omega arith) a)
      ∙ part_out b (row_place k i 0) row_size first (omega arith) f at n (within _ _ _ _ at n (omega arith) (omega arith) a)

  pub rows_board : (b first second : List ℕ) → Board k b → length first ≡ row_size → length second ≡ row_size → Board k (put_rows k b i first second)
  unfolding put_rows
  rows_board b first second o f s =
      let e : length (splice b (row_place k i 0) row_size first) ≡ length b = length_splice b (row_place k i 0) row_size first (omega arith) f
      in let g : length (splice (splice b (row_place k i 0) row_size first) (row_place k i 1) row_size second) ≡ length (splice b (row_place k i 0) row_size first)
      = length_splice (splice b (row_place k i 0) row_size first) (row_place k i 1) row_size second (rw e (omega arith)) s
      in record { size = g ∙ e ∙ o.size; most = o.most }

  module _ (b : List ℕ) (q : Cue) (o : Board k b) (w : Whole q) where
    pub cue_board : Board k (put_cue k b i q)
    unfolding put_cue numbered measured
    cue_board = rows_board (measured k b i q) q.first q.second (measured_board k i b q o h) w.first_whole w.second_whole

    -- what lies in no place of the slot
    pub cue_out : (at n : ℕ) → Apart (start_place i) 8 at n → Apart (writer_place k i) 8 at n → Apart (length_place k i 0) 2 at n → Apart (row_place k i 0) (2 * row_size) at n
        → part (put_cue k b i q) at n ≡ part b at n
    unfolding put_cue numbered measured
    cue_out at n s v l r =
        rows_out (measured k b i q) q.first q.second at n (measured_board k i b q o h) w.first_whole w.second_whole r
        ∙ lengths_out (numbered k b i q) q.first_length q.second_length at n (numbered_board k i b q o h) l
        ∙ numbers_out b q.start q.writer at n o s v
