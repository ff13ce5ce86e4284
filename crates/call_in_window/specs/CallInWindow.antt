-- A call beside which a window is lent (document 02, No. 11). Assumes nothing.
use Rattle.std.specs.Prelude.{not, ℕ, ◌+◌, ◌-◌, List, eqb, get_or, if◌then◌else◌}
use Rattle.percpu.specs.Places.{sched_ctxt_place, schedule_time_place}
use Rattle.machine.specs.Encode.{cpu_place}
use Rattle.image.specs.Refusal.{size_n}
use Rattle.answer.specs.declared.Answer.{Answer}
use Rattle.context_ops.specs.Reply.{Reply, refuse}
use Rattle.calls.specs.Call.{call}
use Rattle.window.specs.declared.Record.{Record}
use Rattle.window.specs.Window.{refusal, added}

pub record WindowReply : Type 0 where
  pub answer : Answer
  pub image : List ℕ
  pub window : List ℕ

abbrev pub window_reply : Answer → List ℕ → List ℕ → WindowReply
window_reply a m w = record { answer = a; image = m; window = w }

abbrev pub beside : Reply → List ℕ → WindowReply
beside y w = window_reply y.answer y.image w

-- what a decision of CPU cpu on the image m of n contexts adds: the in-charge word, and the time less the schedule time, 0 where the clock has gone back
abbrev pub turn_at : (n cpu time : ℕ) → List ℕ → Record
turn_at n cpu time m =
    record { context = get_or m (cpu_place n cpu + sched_ctxt_place) 0; time = time - get_or m (cpu_place n cpu + schedule_time_place) 0 }

-- y: what the call by itself replies; its own number comes before the window's, which is not 0
unfoldable pub own_first : List ℕ → (number : ℕ) → Reply → Reply
own_first m number y = if eqb y.answer.refusal 0 then refuse number m else y

-- the call's own number, then the window's: neither is changed. An accepted decision has a rule, and adds its record; no other call has
unfoldable pub in_window : (image window : List ℕ) → (number : ℕ) → Record → Reply → WindowReply
in_window m w number r y =
    if not (eqb y.answer.refusal 0) then beside y w else
    if not (eqb number 0) then beside (refuse number m) w else
    if eqb y.answer.rule 0 then beside y w else beside y (added w r)

abbrev pub call_in_window : (image window : List ℕ) → (operation cpu time context : ℕ) → WindowReply
call_in_window m w operation cpu time context =
    in_window m w (refusal (size_n m) w) (turn_at (size_n m) cpu time m) (call m operation cpu time context)
