-- A window: the last decisions of one CPU, 256 at most, oldest first (document 02, No. 11). Assumes nothing.
use Rattle.std.specs.Prelude.{Bool, not, ◌&&◌, ℕ, ◌+◌, ◌-◌, List, ◌∷◌, ◌++◌, ltb, leb, eqb, length, get_or, set, drop, if◌then◌else◌}
use Rattle.columns.specs.Common.{tabulate, every}
use Rattle.columns.specs.Columns.{column_remove}
use Rattle.columns.specs.Blocks.{part}
use Rattle.numbers.specs.Limits.{max_elapsed}
use Rattle.window.specs.declared.Record.{Record}

-- the count, 256 contexts and 256 times
abbrev pub capacity : ℕ
capacity = 256

abbrev pub contexts_place : ℕ
contexts_place = 1

abbrev pub times_place : ℕ
times_place = contexts_place + capacity

abbrev pub window_size : ℕ
window_size = times_place + capacity

abbrev pub count_of : List ℕ → ℕ
count_of w = get_or w 0 0

abbrev pub record_at : List ℕ → ℕ → Record
record_at w i = record { context = get_or w (contexts_place + i) 0; time = get_or w (times_place + i) 0 }

-- those in the window, oldest first
abbrev pub records : List ℕ → List Record
records w = tabulate (count_of w) (record_at w)

-- of an image of n contexts
abbrev pub is_in_range : (n : ℕ) → Record → Bool
is_in_range n r = ltb r.context n && leb r.time max_elapsed

unfoldable pub refusal : (n : ℕ) → List ℕ → ℕ
refusal n w =
    if not (eqb (length w) window_size) then 1 else
    if ltb capacity (count_of w) then 1 else
    if not (every (λ (i : ℕ). is_in_range n (record_at w i)) (count_of w)) then 3 else 0

-- a record more: the count and the words of the first unused slot, no other
unfoldable pub appended : List ℕ → Record → List ℕ
appended w r =
    set (set (set w 0 (count_of w + 1)) (contexts_place + count_of w) r.context) (times_place + count_of w) r.time

-- of a full window: every record but the oldest, each moved down by one
unfoldable pub without_oldest : List ℕ → List ℕ
without_oldest w =
    (capacity - 1) ∷ (column_remove (part w contexts_place capacity) capacity 0 ++ column_remove (part w times_place capacity) capacity 0)

unfoldable pub added : List ℕ → Record → List ℕ
added w r = if ltb (count_of w) capacity then appended w r else appended (without_oldest w) r

-- the last k of a list, or all of it
unfoldable pub newest : {A : Type 0} → ℕ → List A → List A
newest k l = drop (length l - k) l
