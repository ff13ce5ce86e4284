-- Operation 4 for the contexts of a list, one call after the other, and what these calls come to. Assumes nothing.
use Rattle.std.specs.Prelude.{◌≡◌, ◌⊎◌, List, [], ◌∷◌, ℕ, ◌+◌, ◌≤◌, max, eqb, if◌then◌else◌, None, Option, Some}
use Rattle.columns.specs.Common.{fold, All, In}
use Rattle.answer.specs.declared.Answer.{Answer}
use Rattle.context_ops.specs.Reply.{Reply, reply, refuse}
use Rattle.group_ops.specs.Group.{first_check}
use Rattle.calls.specs.Call.{unblock_context_call}

-- each call is on the image that the one before it left: the answers in order, and the image after the last
unfoldable pub singles : List ℕ → (cpu time : ℕ) → List ℕ → List Answer
singles m cpu time [] = []
singles m cpu time (x ∷ xs) = (unblock_context_call m cpu time x).answer ∷ singles (unblock_context_call m cpu time x).image cpu time xs

unfoldable pub image_after : List ℕ → (cpu time : ℕ) → List ℕ → List ℕ
image_after m cpu time [] = m
image_after m cpu time (x ∷ xs) = image_after (unblock_context_call m cpu time x).image cpu time xs

abbrev pub zero_answer : Answer
zero_answer = record { refusal = 0; result = 0; interrupt = 0; rule = 0 }

-- of two answers: the refusal that is checked first, the sum of the results, and 1 if either has the mark
unfoldable pub joined_answer : Answer → Answer → Answer
joined_answer a b =
    record {
      refusal = first_check a.refusal b.refusal;
      result = a.result + b.result;
      interrupt = max a.interrupt b.interrupt;
      rule = 0;
    }

-- one reply for all of them: if none was refused, with the image m' after them; else the least number, with the image m before them
unfoldable pub joined : List ℕ → List Answer → List ℕ → Reply
joined m answers m' =
    let a = fold joined_answer zero_answer answers in
    if eqb a.refusal 0 then reply a m' else refuse a.refusal m

-- no context is named: only the CPU is looked at
abbrev pub none_named : List ℕ → Option ℕ → Reply
none_named m None = refuse 5 m
none_named m (Some k) = reply zero_answer m

-- an answer that is refused by the number r
pub record Met (r : ℕ) (answers : List Answer) : Type 0 where
  pub answer : Answer
  pub of_them : In answer answers
  pub is : answer.refusal ≡ r

-- r is the least number by which any of them is refused, and 0 if none is
pub record Least (r : ℕ) (answers : List Answer) : Type 0 where
  pub least : All (λ (a : Answer). (a.refusal ≡ 0) ⊎ (r ≤ a.refusal)) answers
  pub met : (r ≡ 0 → ⊥) → Met r answers
  pub none : r ≡ 0 → All (λ (a : Answer). a.refusal ≡ 0) answers
