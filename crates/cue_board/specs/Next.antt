-- Asking a board for its next cue at a time: the answer, every byte of the board and every word of the image after. Assumes nothing.
use Rattle.std.specs.Prelude.{Option, Some, None, Result, Ok, Err, ℕ, ◌+◌, List, eqb, if◌then◌else◌}
use Rattle.context_ops.specs.Reply.{Reply}
use Rattle.calls.specs.Call.{unblock_context_call}
use Rattle.board.specs.Board.{Cue, put_number, cue_at}
use Rattle.cues.specs.declared.Slot.{Slot}
use Rattle.cues.specs.Due.{next_due}
use Rattle.cue_board.specs.declared.Handed.{Handed}

pub record Asked : Type 0 where
  pub handed : Handed
  pub board : List ℕ
  pub image : List ℕ

abbrev pub asked : Handed → (board image : List ℕ) → Asked
asked h b m = record { handed = h; board = b; image = m }

-- no cue: none is due, or the call is refused by the number r
abbrev pub no_cue : ℕ → Handed
no_cue r =
    record {
      refusal = r;
      due = 0;
      cue = 0;
      start = 0;
      writer = 0;
      first_length = 0;
      second_length = 0;
      result = 0;
      interrupt = 0;
    }

-- cue q of slot i, and what waking its writer came to
abbrev pub the_cue : ℕ → Cue → Reply → Handed
the_cue i q woken =
    record {
      refusal = 0;
      due = 1;
      cue = i;
      start = q.start;
      writer = q.writer;
      first_length = q.first_length;
      second_length = q.second_length;
      result = woken.answer.result;
      interrupt = woken.answer.interrupt;
    }

-- the cue is handed out if its writer was woken; else it stays on the board, and the refusal is passed on
unfoldable pub handed_if_woken : List ℕ → List ℕ → ℕ → Cue → Reply → Asked
handed_if_woken b m i q woken =
    if eqb woken.answer.refusal 0 then asked (the_cue i q woken) (put_number b 16 (i + 1)) woken.image else
    asked (no_cue woken.answer.refusal) b m

-- the writer is woken by operation 4
abbrev pub hand_out : List ℕ → List ℕ → (cpu time i : ℕ) → Cue → Asked
hand_out b m cpu time i q = handed_if_woken b m i q (unblock_context_call m cpu time q.writer)

unfoldable pub next_by : List ℕ → List ℕ → (cpu time : ℕ) → Result (Option Slot) ℕ → Asked
next_by b m cpu time (Err r) = asked (no_cue r) b m
next_by b m cpu time (Ok None) = asked (no_cue 0) b m
next_by b m cpu time (Ok (Some s)) = hand_out b m cpu time s.index (cue_at s.capacity b s.index)

abbrev pub next : List ℕ → List ℕ → (cpu time : ℕ) → Asked
next b m cpu time = next_by b m cpu time (next_due b time)
