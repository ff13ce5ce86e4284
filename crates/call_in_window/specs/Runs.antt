-- Runs of calls in a window that nobody else writes. Assumes nothing.
use Rattle.std.specs.Prelude.{◌≡◌, ℕ, List, [], ◌∷◌, ◌++◌, eqb, length, if◌then◌else◌}
use Rattle.columns.specs.Common.{All}
use Rattle.image.specs.Refusal.{size_n}
use Rattle.answer.specs.declared.Answer.{Answer}
use Rattle.calls.specs.Call.{call}
use Rattle.window.specs.declared.Record.{Record}
use Rattle.window.specs.Window.{capacity, window_size, count_of, records, newest}
use Rattle.call_in_window.specs.CallInWindow.{WindowReply, turn_at, call_in_window}

-- a call, of any operation, and the image that it was made on
pub record Made : Type 0 where
  pub image : List ℕ
  pub operation : ℕ
  pub cpu : ℕ
  pub time : ℕ
  pub context : ℕ

abbrev pub reply_of : List ℕ → Made → WindowReply
reply_of w c = call_in_window c.image w c.operation c.cpu c.time c.context

-- each call finds the window that the one before it left
unfoldable pub window_after : List ℕ → List Made → List ℕ
window_after w [] = w
window_after w (c ∷ cs) = window_after (reply_of w c).window cs

-- the holder before a call, and the nanoseconds since its CPU's last decision
abbrev pub turn_before : Made → Record
turn_before c = turn_at (size_n c.image) c.cpu c.time c.image

-- what a call that was answered a adds: an accepted decision its record, all else none
unfoldable pub decision_of : Made → Answer → List Record
decision_of c a = if eqb a.refusal 0 then (if eqb a.rule 0 then [] else turn_before c ∷ []) else []

-- the accepted decisions, in order
unfoldable pub decisions : List ℕ → List Made → List Record
decisions w [] = []
decisions w (c ∷ cs) = decision_of c (reply_of w c).answer ++ decisions (reply_of w c).window cs

-- the same by the answers of the calls without a window
unfoldable pub own_decisions : List Made → List Record
own_decisions [] = []
own_decisions (c ∷ cs) = decision_of c (call c.image c.operation c.cpu c.time c.context).answer ++ own_decisions cs

-- no record; the other words are any
pub record Empty (w : List ℕ) : Type 0 where
  pub size : length w ≡ window_size
  pub none : count_of w ≡ 0

-- of every list of calls from an empty window: it holds the last 256 accepted decisions, oldest first
abbrev pub HoldsNewest : Type 0
HoldsNewest = (w : List ℕ) → Empty w → (cs : List Made) → records (window_after w cs) ≡ newest capacity (decisions w cs)

-- and where all images have as many contexts, the window is no reason to refuse any: those are the calls' own decisions
abbrev pub HoldsOwn : Type 0
HoldsOwn =
    (n : ℕ) (w : List ℕ) → Empty w → (cs : List Made) → All (λ (c : Made). size_n c.image ≡ n) cs
    → records (window_after w cs) ≡ newest capacity (own_decisions cs)
