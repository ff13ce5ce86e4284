-- What trying a switch gives. Assumes nothing.
use Rattle.std.specs.Prelude.{◌≡◌, ℕ, List}
use Rattle.answer.specs.declared.Answer.{Answer}
use Rattle.context_ops.specs.Reply.{Reply}
use Rattle.calls.specs.Call.{switch_call}

-- a is the answer of a switch on the image m; if it is accepted, m' is the image that it leaves
pub record Tried (m m' : List ℕ) (cpu time : ℕ) (a : Answer) : Type 0 where
  pub answers : a ≡ (switch_call m cpu time).answer
  pub leaves : a.refusal ≡ 0 → m' ≡ (switch_call m cpu time).image
