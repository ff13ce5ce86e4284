-- Which cue is due. Assumes nothing.
use Rattle.std.specs.Prelude.{Option, Some, None, Result, Ok, Err, Bool, ◌&&◌, ℕ, List, ltb, leb, eqb, if◌then◌else◌}
use Rattle.board.specs.Board.{Cue, capacity, stored, handed_out, cue_at, cues}
use Rattle.cue_line.specs.Line.{board_refusal}
use Rattle.cues.specs.declared.Slot.{Slot}

-- the earliest cue that is not handed out
abbrev pub next_cue : List ℕ → Cue
next_cue b = cue_at (capacity b) b (handed_out b)

-- there is one, and its start is at most the time
unfoldable pub is_due : List ℕ → ℕ → Bool
is_due b time = ltb (handed_out b) (stored b) && leb (next_cue b).start time

-- the refusal, or the board's capacity and the slot of the cue that is due, if one is
unfoldable pub next_due : List ℕ → ℕ → Result (Option Slot) ℕ
next_due b time =
    let r = board_refusal b (cues b) in
    if eqb r 0 then Ok (if is_due b time then Some (record { capacity = capacity b; index = handed_out b }) else None) else Err r
