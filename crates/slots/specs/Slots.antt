-- A cue that is put into a slot: every byte of the board after. Assumes nothing.
use Rattle.std.specs.Prelude.{ℕ, List, set}
use Rattle.columns.specs.Blocks.{splice}
use Rattle.board.specs.Board.{Cue, row_size, put_number, start_place, writer_place, length_place, row_place, offered}
use Rattle.slots.specs.declared.Offer.{Offer}

-- the board of k cues with q in slot i
unfoldable pub put_numbers : ℕ → List ℕ → (i start writer : ℕ) → List ℕ
put_numbers k b i start writer = put_number (put_number b (start_place i) start) (writer_place k i) writer

unfoldable pub put_lengths : ℕ → List ℕ → (i first second : ℕ) → List ℕ
put_lengths k b i first second = set (set b (length_place k i 0) first) (length_place k i 1) second

unfoldable pub put_rows : ℕ → List ℕ → ℕ → (first second : List ℕ) → List ℕ
put_rows k b i first second = splice (splice b (row_place k i 0) row_size first) (row_place k i 1) row_size second

unfoldable pub put_cue : ℕ → List ℕ → ℕ → Cue → List ℕ
put_cue k b i q =
    put_rows k (put_lengths k (put_numbers k b i q.start q.writer) i q.first_length q.second_length) i q.first q.second

abbrev pub cue_of : Offer → Cue
cue_of q = offered q.start q.writer q.first.now q.second.now
