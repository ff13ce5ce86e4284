-- A cue board: its bytes, its sizes and its cues. Assumes nothing.
use Rattle.std.specs.Prelude.{Result, Ok, Err, Bool, ◌&&◌, ◌≡◌, ℕ, ◌+◌, ◌-◌, ◌*◌, ◌≤◌, List, ◌++◌, ltb, leb, eqb, length, get_or, replicate, if◌then◌else◌}
use Rattle.columns.specs.Common.{tabulate}
use Rattle.columns.specs.Blocks.{part, splice}
use Rattle.le_bytes.specs.LeBytes.{from_le_bytes, to_le_bytes}
use Rattle.board.specs.declared.Sizes.{Sizes}
use Rattle.board.specs.declared.Refusal.{Refusal}
use Rattle.board.specs.declared.Refusal.TheVariants.{WrongSizes, LongRow, EarlyStart, FullBoard}

abbrev pub max_capacity : ℕ
max_capacity = 512

-- the bytes of the three sizes, and of a row
abbrev pub header_size : ℕ
header_size = 24

abbrev pub row_size : ℕ
row_size = 40

-- a number of 8 bytes, lowest first; and the bytes with another in its place
abbrev pub number_at : List ℕ → ℕ → ℕ
number_at b at = from_le_bytes (part b at 8)

abbrev pub put_number : List ℕ → (at x : ℕ) → List ℕ
put_number b at x = splice b at 8 (to_le_bytes 8 x)

-- K, how many cues it holds, and how many of them are handed out
abbrev pub capacity : List ℕ → ℕ
capacity b = number_at b 0

abbrev pub stored : List ℕ → ℕ
stored b = number_at b 8

abbrev pub handed_out : List ℕ → ℕ
handed_out b = number_at b 16

-- where cue i of k has its start, its writer, the lengths of its rows and its rows
abbrev pub start_place : ℕ → ℕ
start_place i = header_size + 8 * i

abbrev pub writer_place : (k i : ℕ) → ℕ
writer_place k i = header_size + 8 * k + 8 * i

abbrev pub length_place : (k i r : ℕ) → ℕ
length_place k i r = header_size + 16 * k + (2 * i + r)

abbrev pub row_place : (k i r : ℕ) → ℕ
row_place k i r = header_size + 18 * k + row_size * (2 * i + r)

abbrev pub board_size : ℕ → ℕ
board_size k = header_size + 98 * k

-- length and sizes are right
unfoldable pub is_sized : List ℕ → Bool
is_sized b =
    leb header_size (length b) && ltb 0 (capacity b) && leb (capacity b) max_capacity && eqb (length b) (board_size (capacity b))
    && leb (stored b) (capacity b) && leb (handed_out b) (stored b)

unfoldable pub sizes_of : List ℕ → Result Sizes Refusal
sizes_of b =
    if is_sized b then Ok (record { capacity = capacity b; stored = stored b; handed_out = handed_out b }) else Err WrongSizes

-- the number that a caller is told
abbrev pub refusal_number : Refusal → ℕ
refusal_number WrongSizes = 1
refusal_number LongRow = 10
refusal_number EarlyStart = 11
refusal_number FullBoard = 12

-- 0, or the number
abbrev pub refusal_of : {A : Type 0} → Result A Refusal → ℕ
refusal_of (Ok x) = 0
refusal_of (Err r) = refusal_number r

-- what was found, or the number
abbrev pub numbered : {A : Type 0} → Result A Refusal → Result A ℕ
numbered (Ok x) = Ok x
numbered (Err r) = Err (refusal_number r)

-- the bytes of a board of k cues
pub record Board (k : ℕ) (b : List ℕ) : Type 0 where
  pub size : length b ≡ board_size k
  pub most : k ≤ max_capacity

-- a row is its 40 bytes, of which the length says how many came in
pub record Cue : Type 0 where
  pub start : ℕ
  pub writer : ℕ
  pub first_length : ℕ
  pub second_length : ℕ
  pub first : List ℕ
  pub second : List ℕ

-- the bytes that came in, and zeros
unfoldable pub padded : List ℕ → List ℕ
padded row = row ++ replicate (row_size - length row) 0

-- a cue as it is offered
unfoldable pub offered : (start writer : ℕ) → (first second : List ℕ) → Cue
offered start writer first second =
    record {
      start = start;
      writer = writer;
      first_length = length first;
      second_length = length second;
      first = padded first;
      second = padded second;
    }

-- cue i of a board of k cues
unfoldable pub cue_at : ℕ → List ℕ → ℕ → Cue
cue_at k b i =
    record {
      start = number_at b (start_place i);
      writer = number_at b (writer_place k i);
      first_length = get_or b (length_place k i 0) 0;
      second_length = get_or b (length_place k i 1) 0;
      first = part b (row_place k i 0) row_size;
      second = part b (row_place k i 1) row_size;
    }

abbrev pub length_of : (r : ℕ) → Cue → ℕ
length_of r q = if eqb r 0 then q.first_length else q.second_length

-- the cues that are stored, in order
unfoldable pub cues : List ℕ → List Cue
cues b = tabulate (stored b) (cue_at (capacity b) b)
