-- Adding a cue: its refusal, and every byte of the board after. Assumes nothing.
use Rattle.std.specs.Prelude.{Result, Ok, Err, ℕ, ◌+◌, List, [], ◌∷◌, ◌++◌, eqb, if◌then◌else◌}
use Rattle.board.specs.Board.{Cue, capacity, stored, put_number, cues}
use Rattle.slots.specs.Slots.{put_cue}
use Rattle.cue_line.specs.Line.{board_refusal}
use Rattle.cues.specs.declared.Slot.{Slot}

pub record Added : Type 0 where
  pub refusal : ℕ
  pub board : List ℕ

abbrev pub added : ℕ → List ℕ → Added
added r b = record { refusal = r; board = b }

-- the offered cue is the last in line
unfoldable pub add_refusal : List ℕ → Cue → ℕ
add_refusal b q =
    let r = board_refusal b (cues b ++ (q ∷ [])) in
    if eqb r 0 then (if eqb (stored b) (capacity b) then 12 else 0) else r

-- the refusal, or the board's capacity and its first free slot
unfoldable pub free_slot : List ℕ → Cue → Result Slot ℕ
free_slot b q = if eqb (add_refusal b q) 0 then Ok (record { capacity = capacity b; index = stored b }) else Err (add_refusal b q)

-- q in the first free slot, and one more stored
unfoldable pub with_cue : List ℕ → Cue → List ℕ
with_cue b q = put_number (put_cue (capacity b) b (stored b) q) 8 (stored b + 1)

unfoldable pub add : List ℕ → Cue → Added
add b q =
    let r = add_refusal b q in
    record { refusal = r; board = if eqb r 0 then with_cue b q else b }
