-- A run of calls: each is on the image that the one before it left. Assumes nothing.
use Rattle.std.specs.Prelude.{Bool, ◌&&◌, List, [], ◌∷◌, ◌++◌, ℕ, ◌+◌, ◌*◌, ◌/◌, ◌%◌, eqb, length, get_or, take, drop, if◌then◌else◌, None, Option, Some}
use Rattle.columns.specs.Common.{fold, tabulate}
use Rattle.answer.specs.declared.Answer.{Answer}
use Rattle.context_ops.specs.Reply.{Reply}
use Rattle.calls.specs.Call.{call}
use Rattle.numbers.specs.Limits.{max_word}
use Rattle.operations.specs.declared.arguments.Call.{Call}

-- four words of a call, one call after the other
abbrev pub call_at : List ℕ → ℕ → Call
call_at w i =
    record {
      operation = get_or w (4 * i) 0;
      cpu = get_or w (4 * i + 1) 0;
      time = get_or w (4 * i + 2) 0;
      context = get_or w (4 * i + 3) 0;
    }

unfoldable pub calls_of : List ℕ → List Call
calls_of w = tabulate (length w / 4) (call_at w)

-- and of an answer
abbrev pub answer_words : Answer → List ℕ
answer_words a = a.refusal ∷ a.result ∷ a.interrupt ∷ a.rule ∷ []

-- the words of answer i anew
unfoldable pub put_answer : List ℕ → ℕ → Answer → List ℕ
put_answer w i a = take (4 * i) w ++ answer_words a ++ drop (4 * i + 4) w

-- what some calls come to: the image after the last, and the answers in order
pub record Run : Type 0 where
  pub image : List ℕ
  pub answers : List ℕ

abbrev pub ran : List ℕ → List ℕ → Run
ran m w = record { image = m; answers = w }

abbrev pub reply_of : List ℕ → Call → Reply
reply_of m c = call m c.operation c.cpu c.time c.context

-- one call more
abbrev pub one_more : Run → Call → Run
one_more r c = ran (reply_of r.image c).image (r.answers ++ answer_words (reply_of r.image c).answer)

unfoldable pub run_calls : List ℕ → List Call → Run
run_calls m cs = fold one_more (ran m []) cs

-- with how many calls were made
pub record RunReply : Type 0 where
  pub made : ℕ
  pub image : List ℕ
  pub answers : List ℕ

abbrev pub run_reply : ℕ → List ℕ → List ℕ → RunReply
run_reply made m w = record { made = made; image = m; answers = w }

-- all ones where none was, since the lengths do not fit
abbrev pub made_of : Option ℕ → ℕ
made_of None = max_word
made_of (Some n) = n

-- a whole number of calls, and as many answers
unfoldable pub lengths_fit : (calls answers : List ℕ) → Bool
lengths_fit calls answers = eqb (length calls % 4) 0 && eqb (length answers) (length calls)

unfoldable pub run : (image calls answers : List ℕ) → RunReply
run m calls answers =
    let r = run_calls m (calls_of calls) in
    if lengths_fit calls answers then run_reply (length calls / 4) r.image r.answers else run_reply max_word m answers
