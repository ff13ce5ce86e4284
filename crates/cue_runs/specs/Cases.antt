-- Cases of the definitions, by computing; what is expected is worked out by hand from document 02. Assumes nothing.
use Rattle.std.specs.Prelude.{◌≡◌, refl, ℕ, ◌+◌, ◌*◌, List, [], ◌∷◌, ◌++◌, replicate, set}
use Rattle.columns.specs.Common.{tabulate}
use Rattle.columns.specs.Blocks.{part, splice}
use Rattle.image.specs.Refusal.{image_refusal}
use Rattle.calls.specs.Call.{check, checked_by}
use Rattle.le_bytes.specs.LeBytes.{from_le_bytes, to_le_bytes}
use Rattle.board.specs.Board.{Cue, is_sized, padded, offered, put_number, cue_at, cues}
use Rattle.slots.specs.Slots.{put_numbers, put_lengths, put_rows, put_cue}
use Rattle.cue_line.specs.Line.{rows_fit, all_rows_fit, is_before, starts_rise, line_refusal, board_refusal}
use Rattle.cues.specs.Add.{add_refusal, with_cue, add}
use Rattle.cues.specs.Due.{is_due, next_due}
use Rattle.cue_board.specs.Next.{asked, no_cue, handed_if_woken, next_by, next}
use Rattle.cue_runs.specs.Runs.{Call, adds, asks, after, read_cue, brought, handed, all_brought, all_handed}

unfoldable opened : Unit {0}
unfolding tabulate padded part splice from_le_bytes to_le_bytes is_sized offered cue_at cues put_numbers put_lengths put_rows put_cue rows_fit all_rows_fit is_before starts_rise line_refusal board_refusal add_refusal with_cue add is_due next_due handed_if_woken next_by image_refusal check checked_by after read_cue brought handed all_brought all_handed
opened = tt

-- a number below 256, in 8 bytes
abbrev small : ℕ → List ℕ
small x = x ∷ replicate 7 0

-- of two cues, its free slots full of sevens
abbrev empty : List ℕ
empty = small 2 ++ small 0 ++ small 0 ++ replicate 196 7

-- at 1000 for context 1, of the rows "Hi" and ""
abbrev hi : Cue
hi = offered 1000 1 (72 ∷ 105 ∷ []) []

-- 1000 = 3·256 + 232
abbrev one : List ℕ
one =
    small 2 ++ small 1 ++ small 0 ++ (232 ∷ 3 ∷ replicate 6 0) ++ replicate 8 7 ++ small 1 ++ replicate 8 7 ++ (2 ∷ 0 ∷ 7 ∷ 7 ∷ [])
    ++ (72 ∷ 105 ∷ replicate 38 0) ++ replicate 40 0 ++ replicate 80 7

pub added : add empty hi ≡ record { refusal = 0; board = one }
unfolding opened
added = refl

-- sizes: K of 513, a byte too few, more handed out than stored
pub sizes_wrong : (add_refusal (1 ∷ 2 ∷ replicate 50296 0) hi ≡ 1) × (add_refusal (small 2 ++ replicate 211 0) hi ≡ 1) × (add_refusal (small 2 ++ small 1 ++ small 2 ++ replicate 196 0) hi ≡ 1)
unfolding opened
sizes_wrong = (refl, refl, refl)

-- K of 512: 24 + 98·512 bytes
pub largest : add_refusal (0 ∷ 2 ∷ replicate 50198 0) hi ≡ 0
unfolding opened
largest = refl

-- a row of 40 and one of 41; a start that is not later; both: 10 comes first
pub offered_wrong : (add_refusal one (offered 1001 1 (replicate 40 65) []) ≡ 0) × (add_refusal one (offered 1001 1 [] (replicate 41 65)) ≡ 10) × (add_refusal one (offered 1000 1 [] []) ≡ 11)
    × (add_refusal one (offered 1000 1 (replicate 41 65) []) ≡ 10)
unfolding opened
offered_wrong = (refl, refl, refl, refl)

-- a board that is full, of starts 1000 and 2000, and what is offered to it: 11 comes before 12
abbrev two : List ℕ
two = (add one (offered 2000 0 [] [])).board

pub full : (add_refusal two (offered 2001 1 [] []) ≡ 12) × (add_refusal two (offered 2000 1 [] []) ≡ 11)
unfolding opened
full = (refl, refl)

-- the same of a cue that is stored, though it is handed out: its second row's length is 41, or it starts no earlier than the next
abbrev long_row : List ℕ
long_row = set (put_number two 16 1) (24 + 16 * 2 + 1) 41

abbrev late : List ℕ
late = put_number (put_number two 16 1) 24 2000

pub stored_wrong : (add_refusal long_row (offered 3000 1 [] []) ≡ 10) × (next long_row [] 0 3000 ≡ asked (no_cue 10) long_row []) × (add_refusal late (offered 3000 1 [] []) ≡ 11)
    × (next late [] 0 3000 ≡ asked (no_cue 11) late [])
unfolding opened
stored_wrong = (refl, refl, refl, refl)

-- none is due, whatever the image; a due one meets the image's refusal
pub asked_early : next one [] 0 999 ≡ asked (no_cue 0) one []
unfolding opened
asked_early = refl

pub asked_in_vain : next one [] 0 1000 ≡ asked (no_cue 1) one []
unfolding opened
asked_in_vain = refl

-- the writer was woken, by an interrupt: the cue goes, and only the third size changes
pub woken : handed_if_woken one [] 0 (cue_at 2 one 0) (record { answer = record { refusal = 0; result = 1; interrupt = 1; rule = 0 }; image = 5 ∷ [] })
    ≡ asked
    (record { refusal = 0; due = 1; cue = 0; start = 1000; writer = 1; first_length = 2; second_length = 0; result = 1; interrupt = 1 })
    (set one 16 1) (5 ∷ [])
unfolding opened
woken = refl

-- of a run with two adds and two asks in vain: the cues brought, and none handed out
abbrev run : List Call
run = adds 1000 1 (72 ∷ 105 ∷ []) [] ∷ asks [] 0 1000 ∷ adds 1000 1 [] [] ∷ adds 2000 1 [] [] ∷ asks [] 0 5 ∷ []

pub run_brought : (all_brought empty run ≡ hi ∷ offered 2000 1 [] [] ∷ []) × (all_handed empty run ≡ [])
unfolding opened
run_brought = (refl, refl)
