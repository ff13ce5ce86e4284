-- Every call on a board of right sizes advances it. Assumes nothing.
use Rattle.std.specs.Prelude.{Option, Some, None, Result, Ok, Err, if◌then◌else◌}
use mathlib.Core.Path.{◌≡◌, refl}
use mathlib.Core.Bool.{true}
use mathlib.Core.Logic.{inr}
use Prim.Native.Nat.{ℕ, ◌+◌, ◌<◌}
use native.Mathlib.Omega.{arith}
use mathlib.Core.List.{List, [], ◌∷◌}
use lib.Dec.{eqb}
use borrow.Author.Tests.{eqb-true}
use Rattle.columns.specs.Blocks.{part}
use Rattle.columns.proofs.Tests.{by_test}
use Rattle.numbers.specs.Limits.{word_range}
use Rattle.context_ops.specs.Reply.{Reply}
use Rattle.calls.specs.Call.{unblock_context_call}
use Rattle.board.specs.Board.{Cue, is_sized, row_size, row_place, put_number, capacity, stored, handed_out, offered, cue_at}
use Rattle.slots.proofs.Rows.{length_padded}
use Rattle.board.proofs.Sized.{sized_is}
use Rattle.cues.specs.Add.{add_refusal, add}
use Rattle.cues.specs.declared.Slot.{Slot}
use Rattle.cues.specs.Due.{next_due}
use Rattle.cues.proofs.Accepted.{Takes, takes, slot_due}
use Rattle.cue_board.specs.Next.{Asked, the_cue, handed_if_woken, next_by}
use Rattle.cue_runs.specs.Runs.{Call, adds, asks, Words, after, read_cue, brought, handed}
use Rattle.cue_runs.proofs.Regions.{Whole, number_out}
use Rattle.cue_runs.proofs.Advance.{Advance, stays, takes_cue, gives_cue, capacity_after}

offered_whole : (b : List ℕ) (start writer : ℕ) (first second : List ℕ) → start < word_range → writer < word_range → Takes b (offered start writer first second) → Whole (offered start writer first second)
unfolding offered
offered_whole b start writer first second s w t =
    record { start_word = s; writer_word = w; first_whole = length_padded first t.first_fits; second_whole = length_padded second t.second_fits }

module _ (b : List ℕ) (s : is_sized b ≡ true) where
  -- the answer names the cue, and its rows stand where they stood
  read_is : (woken : Reply) → handed_out b < stored b
      → read_cue (put_number b 16 (handed_out b + 1)) (the_cue (handed_out b) (cue_at (capacity b) b (handed_out b)) woken) ≡ cue_at (capacity b) b (handed_out b)
  unfolding read_cue cue_at
  read_is woken g =
      let row : (r : ℕ) → part (put_number b 16 (handed_out b + 1)) (row_place (capacity b) (handed_out b) r) row_size ≡ part b (row_place (capacity b) (handed_out b) r) row_size
      = λ r. number_out b 16 (handed_out b + 1) (row_place (capacity b) (handed_out b) r) row_size (omega (arith, (sized_is b s).board.size)) (inr (omega arith))
      in let c : capacity (put_number b 16 (handed_out b + 1)) ≡ capacity b = capacity_after b s g
      in rw (c, row 0, row 1)

  -- what an answer handed out
  abbrev handed_by : Asked → List Cue
  handed_by a = if eqb a.handed.due 1 then read_cue a.board a.handed ∷ [] else []

  module _ (m : List ℕ) (cpu time : ℕ) where
    slot : (k i : ℕ) (woken : Reply) → k ≡ capacity b → i ≡ handed_out b → handed_out b < stored b
        → Advance b (handed_if_woken b m i (cue_at k b i) woken).board [] (handed_by (handed_if_woken b m i (cue_at k b i) woken))
    unfolding handed_if_woken
    slot k i woken e f g =
        by_test (eqb woken.answer.refusal 0) (λ t. rw (e, f, t, read_is woken g) (gives_cue b s g)) (λ t. rw t (stays b s))

    asked_by : (d : Result (Option Slot) ℕ) → d ≡ next_due b time → Advance b (next_by b m cpu time d).board [] (handed_by (next_by b m cpu time d))
    unfolding next_by
    asked_by (Err r) e = stays b s
    asked_by (Ok None) e = stays b s
    asked_by (Ok (Some t)) e =
        let d = slot_due b time t e in slot t.capacity t.index (unblock_context_call m cpu time (cue_at t.capacity b t.index).writer) d.capacity_is d.slot_is d.waits

  pub call_advances : (c : Call) → Words c → Advance b (after b c) (brought b c) (handed b c)
  unfolding after brought handed add
  call_advances (adds start writer first second) w =
      let q : Cue = offered start writer first second
      in by_test (eqb (add_refusal b q) 0)
      (λ t. let k = takes b q (eqb-true (add_refusal b q) 0 t) in rw t (takes_cue b s q (offered_whole b start writer first second w.0 w.1 k) k.room)) (λ t. rw t (stays b s))
  call_advances (asks m cpu time) w = asked_by m cpu time (next_due b time) refl
