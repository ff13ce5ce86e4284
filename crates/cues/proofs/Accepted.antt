-- What a free slot, or its refusal, says of an offered cue. Assumes nothing.
use Rattle.std.specs.Prelude.{Option, Some, None, Result, Ok, Err, if◌then◌else◌}
use mathlib.Core.Path.{◌≡◌, refl, sym, ◌∙◌}
use mathlib.Core.Bool.{true, false, not}
use Prim.Native.Nat.{ℕ, ◌+◌, ◌<◌, ◌≤◌}
use native.Mathlib.Omega.{arith}
use mathlib.Core.List.{List, [], ◌∷◌, ◌++◌}
use lib.Dec.{ltb, leb, eqb}
use borrow.Author.Tests.{leb-true, ltb-true, eqb-true, eqb-false, not-false}
use Rattle.columns.proofs.Tests.{by_test, and_both, past}
use lib.ListN.{length}
use Rattle.board.specs.Board.{Cue, Board, offered, row_size, is_sized, capacity, stored, handed_out, cues, put_number}
use Rattle.slots.specs.Slots.{put_cue}
use Rattle.board.proofs.Sized.{sized_is}
use Rattle.cue_line.specs.Line.{rows_fit, all_rows_fit, line_refusal, board_refusal}
use Rattle.cues.specs.Add.{added, add_refusal, free_slot, with_cue, add}
use Rattle.cues.specs.declared.Slot.{Slot}
use Rattle.cues.specs.Due.{next_cue, is_due, next_due}
use Rattle.cue_line.proofs.Lined.{fit_snoc}
use Rattle.cues.proofs.Offered.{Orderly, orderly}

-- a board that is not refused
pub record Accepts (b : List ℕ) (l : List Cue) : Type 0 where
  pub sized : is_sized b ≡ true
  pub line : Orderly l

pub accepts : (b : List ℕ) (l : List Cue) → board_refusal b l ≡ 0 → Accepts b l
unfolding board_refusal
accepts b l e =
    let p = past (not (is_sized b)) 1 (line_refusal l) (λ z. omega arith) e in
    record { sized = not-false _ p.0; line = orderly l p.1 }

-- a cue that is accepted
pub record Takes (b : List ℕ) (q : Cue) : Type 0 where
  pub accepted : Accepts b (cues b ++ (q ∷ []))
  pub room : stored b < capacity b
  pub first_fits : q.first_length ≤ row_size
  pub second_fits : q.second_length ≤ row_size

pub takes : (b : List ℕ) (q : Cue) → add_refusal b q ≡ 0 → Takes b q
unfolding add_refusal rows_fit
takes b q e = by_test (eqb r 0) (λ t. yes (eqb-true r 0 t) (rw t at e)) (λ t. absurd (eqb-false r 0 t (rw t at e)))
  where
    r : ℕ
    r = board_refusal b (cues b ++ (q ∷ []))

    yes : r ≡ 0 → ◌≡◌ {A = ℕ} (if eqb (stored b) (capacity b) then 12 else 0) 0 → Takes b q
    yes z g =
        let a = accepts b (cues b ++ (q ∷ [])) z
        in let p = past (eqb (stored b) (capacity b)) 12 0 (λ w. omega arith) g
        in let n : stored b ≡ capacity b → ⊥ = eqb-false (stored b) (capacity b) p.0
        in let s : stored b ≤ capacity b = (sized_is b a.sized).fewer
        in let f = and_both (all_rows_fit (cues b)) (rows_fit q) (sym (fit_snoc (cues b) q) ∙ a.line.fit)
        in let t = and_both (leb q.first_length row_size) (leb q.second_length row_size) f.1
        in record { accepted = a; room = omega arith; first_fits = leb-true q.first_length row_size t.0; second_fits = leb-true q.second_length row_size t.1 }

-- what the code found: a refusal, or a slot
module _ (b : List ℕ) (q : Cue) where
  abbrev the_slot : Slot
  the_slot = record { capacity = capacity b; index = stored b }

  pub add_refused : (r : ℕ) → Err r ≡ free_slot b q → added r b ≡ add b q
  unfolding free_slot add
  add_refused r e = by_test (eqb (add_refusal b q) 0) (λ t. absurd (no (rw t at e))) (λ t. yes t (rw t at e))
    where
      no : ◌≡◌ {A = Result Slot ℕ} (Err r) (Ok the_slot) → ⊥
      no p = let w : ◌≡◌ {A = ℕ} 0 1 = cc in omega arith

      yes : eqb (add_refusal b q) 0 ≡ false → ◌≡◌ {A = Result Slot ℕ} (Err r) (Err (add_refusal b q)) → added r b ≡ add b q
      yes t p = let w : r ≡ add_refusal b q = cc in rw (w, t)

  -- what a free slot says
  record IsFree (s : Slot) : Type 0 where
    pub none : add_refusal b q ≡ 0
    pub capacity_is : s.capacity ≡ capacity b
    pub stored_is : s.index ≡ stored b

  is_free : (s : Slot) → Ok s ≡ free_slot b q → IsFree s
  unfolding free_slot
  is_free s e = by_test (eqb (add_refusal b q) 0) (λ t. yes (eqb-true (add_refusal b q) 0 t) (rw t at e)) (λ t. absurd (no (rw t at e)))
    where
      no : ◌≡◌ {A = Result Slot ℕ} (Ok s) (Err (add_refusal b q)) → ⊥
      no p = let w : ◌≡◌ {A = ℕ} 0 1 = cc in omega arith

      yes : add_refusal b q ≡ 0 → ◌≡◌ {A = Result Slot ℕ} (Ok s) (Ok the_slot) → IsFree s
      yes t p = let w : s ≡ the_slot = cc in rw w (record { none = t; capacity_is = refl; stored_is = refl })

  module _ (s : Slot) (e : Ok s ≡ free_slot b q) where
    pub free_board : Board s.capacity b
    free_board = let i = is_free s e in rw i.capacity_is (sized_is b (takes b q i.none).accepted.sized).board

    pub free_room : (s.index < s.capacity) × (q.first_length ≤ row_size) × (q.second_length ≤ row_size)
    free_room = let i = is_free s e in let t = takes b q i.none in rw (i.capacity_is, i.stored_is) (t.room, t.first_fits, t.second_fits)

    pub add_stored : (b' : List ℕ) → b' ≡ put_number (put_cue s.capacity b s.index q) 8 (s.index + 1) → added 0 b' ≡ add b q
    unfolding add with_cue
    add_stored b' h = let i = is_free s e in rw (i.none, ← i.capacity_is, ← i.stored_is, ← h)

pub offered_room : (b first second : List ℕ) (start writer : ℕ) (s : Slot) → Ok s ≡ free_slot b (offered start writer first second)
    → (s.index < s.capacity) × (length first ≤ row_size) × (length second ≤ row_size)
unfolding offered
offered_room b first second start writer s e = free_room b (offered start writer first second) s e

-- what a slot that is due says
pub record IsDue (b : List ℕ) (time : ℕ) (s : Slot) : Type 0 where
  pub accepted : Accepts b (cues b)
  pub capacity_is : s.capacity ≡ capacity b
  pub slot_is : s.index ≡ handed_out b
  pub waits : handed_out b < stored b

module _ (b : List ℕ) (time : ℕ) where
  abbrev due_slot : Slot
  due_slot = record { capacity = capacity b; index = handed_out b }

  pub slot_due : (s : Slot) → Ok (Some s) ≡ next_due b time → IsDue b time s
  unfolding next_due is_due
  slot_due s e = by_test (eqb r 0) (λ t. yes (eqb-true r 0 t) (rw t at e)) (λ t. absurd (refused (rw t at e)))
    where
      r : ℕ
      r = board_refusal b (cues b)

      refused : ◌≡◌ {A = Result (Option Slot) ℕ} (Ok (Some s)) (Err r) → ⊥
      refused p = let w : ◌≡◌ {A = ℕ} 0 1 = cc in omega arith

      none : ◌≡◌ {A = Result (Option Slot) ℕ} (Ok (Some s)) (Ok None) → ⊥
      none p = let w : ◌≡◌ {A = ℕ} 0 1 = cc in omega arith

      named : r ≡ 0 → is_due b time ≡ true → ◌≡◌ {A = Result (Option Slot) ℕ} (Ok (Some s)) (Ok (Some due_slot)) → IsDue b time s
      named z t p =
          let l = and_both (ltb (handed_out b) (stored b)) (leb (next_cue b).start time) t
          in let w : s ≡ due_slot = cc
          in rw w (record { accepted = accepts b (cues b) z; capacity_is = refl; slot_is = refl; waits = ltb-true (handed_out b) (stored b) l.0 })

      yes : r ≡ 0 → ◌≡◌ {A = Result (Option Slot) ℕ} (Ok (Some s)) (Ok (if is_due b time then Some due_slot else None)) → IsDue b time s
      yes z p = by_test (is_due b time) (λ t. named z t (rw t at p)) (λ t. absurd (none (rw t at p)))
