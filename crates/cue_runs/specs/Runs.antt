-- Runs of calls on a board that nobody else writes. Assumes nothing.
use Rattle.std.specs.Prelude.{◌≡◌, true, ℕ, ◌<◌, List, [], ◌∷◌, ◌++◌, eqb, length, take, if◌then◌else◌}
use Rattle.columns.specs.Common.{All}
use Rattle.columns.specs.Blocks.{part}
use Rattle.numbers.specs.Limits.{word_range}
use Rattle.board.specs.Board.{Cue, capacity, stored, is_sized, row_place, row_size, offered}
use Rattle.cues.specs.Add.{add}
use Rattle.cue_board.specs.declared.Handed.{Handed}
use Rattle.cue_board.specs.Next.{next}

-- a cue is added, or the board is asked with any image, CPU and time
pub data Call : Type 0 where
  adds : (start writer : ℕ) → (first second : List ℕ) → Call
  asks : (image : List ℕ) → (cpu time : ℕ) → Call

-- the numbers of a call are words
abbrev pub Words : Call → Type 0
Words (adds start writer first second) = (start < word_range) × (writer < word_range)
Words (asks image cpu time) = Unit {0}

-- the board after a call
unfoldable pub after : List ℕ → Call → List ℕ
after b (adds start writer first second) = (add b (offered start writer first second)).board
after b (asks image cpu time) = (next b image cpu time).board

-- the cue that an answer names: its numbers, and the rows that stand in its slot
unfoldable pub read_cue : List ℕ → Handed → Cue
read_cue b h =
    record {
      start = h.start;
      writer = h.writer;
      first_length = h.first_length;
      second_length = h.second_length;
      first = part b (row_place (capacity b) h.cue 0) row_size;
      second = part b (row_place (capacity b) h.cue 1) row_size;
    }

-- what a call brought: the offered cue, if it was accepted
unfoldable pub brought : List ℕ → Call → List Cue
brought b (adds start writer first second) =
    let q = offered start writer first second in
    if eqb (add b q).refusal 0 then q ∷ [] else []
brought b (asks image cpu time) = []

-- what a call handed out, as it is read off its answer and the board that it left
unfoldable pub handed : List ℕ → Call → List Cue
handed b (adds start writer first second) = []
handed b (asks image cpu time) =
    let a = next b image cpu time in
    if eqb a.handed.due 1 then read_cue a.board a.handed ∷ [] else []

-- each call on the board that the one before it left: all that was brought, and all that was handed out, in order
unfoldable pub all_brought : List ℕ → List Call → List Cue
all_brought b [] = []
all_brought b (call ∷ calls) = brought b call ++ all_brought (after b call) calls

unfoldable pub all_handed : List ℕ → List Call → List Cue
all_handed b [] = []
all_handed b (call ∷ calls) = handed b call ++ all_handed (after b call) calls

-- a board of the right length without a cue; its other bytes are any
pub record Empty (b : List ℕ) : Type 0 where
  pub sized : is_sized b ≡ true
  pub none : stored b ≡ 0

-- of every run from an empty board: the cues handed out are the first that were brought, in order, each once
abbrev pub FirstInFirstOut : Type 0
FirstInFirstOut =
    (b : List ℕ) → Empty b → (calls : List Call) → All Words calls → all_handed b calls ≡ take (length (all_handed b calls)) (all_brought b calls)
