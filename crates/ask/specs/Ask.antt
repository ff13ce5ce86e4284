-- Asking what a switch would give, and committing to it (document 02, No. 9). Assumes nothing.
use Rattle.std.specs.Prelude.{ℕ, List, eqb, if◌then◌else◌}
use Rattle.image.specs.Refusal.{size_n}
use Rattle.context_ops.specs.Reply.{Reply, refuse}
use Rattle.asked.specs.declared.Asked.{Asked}
use Rattle.asked.specs.OfReply.{asked_of, commit_refusal}
use Rattle.calls.specs.Call.{switch_call}

-- what a switch at that time would give
abbrev pub ask : List ℕ → (cpu time : ℕ) → Asked
ask m cpu time = asked_of (size_n m) cpu (switch_call m cpu time)

-- y: the switch's reply on the image m of n contexts
unfoldable pub commit_by : List ℕ → (n cpu : ℕ) → Asked → Reply → Reply
commit_by m n cpu given y =
    if eqb (commit_refusal given (asked_of n cpu y)) 0 then y else refuse (commit_refusal given (asked_of n cpu y)) m

abbrev pub commit : List ℕ → (cpu time : ℕ) → Asked → Reply
commit m cpu time given = commit_by m (size_n m) cpu given (switch_call m cpu time)
