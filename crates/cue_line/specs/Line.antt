-- Refusals 1, 10 and 11 of a board: its sizes, its rows and its starts. Assumes nothing.
use Rattle.std.specs.Prelude.{Bool, true, ◌&&◌, not, ℕ, List, [], ◌∷◌, ltb, leb, if◌then◌else◌}
use Rattle.board.specs.Board.{Cue, row_size, is_sized}

unfoldable pub rows_fit : Cue → Bool
rows_fit q = leb q.first_length row_size && leb q.second_length row_size

unfoldable pub all_rows_fit : List Cue → Bool
all_rows_fit [] = true
all_rows_fit (q ∷ l) = rows_fit q && all_rows_fit l

-- the first of l, if there is one, starts later than p
unfoldable pub is_before : Cue → List Cue → Bool
is_before p [] = true
is_before p (q ∷ l) = ltb p.start q.start

-- each starts later than the one before it
unfoldable pub starts_rise : List Cue → Bool
starts_rise [] = true
starts_rise (q ∷ l) = is_before q l && starts_rise l

-- of cues in line
unfoldable pub line_refusal : List Cue → ℕ
line_refusal l = if not (all_rows_fit l) then 10 else if not (starts_rise l) then 11 else 0

-- of a board and a line: its own cues, or these and one that is offered
unfoldable pub board_refusal : List ℕ → List Cue → ℕ
board_refusal b l = if not (is_sized b) then 1 else line_refusal l
