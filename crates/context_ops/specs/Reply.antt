-- What a call answers, and the image it leaves. Assumes nothing.
use Rattle.std.specs.Prelude.{ℕ, List, if◌then◌else◌, None, Option, Some, Err, Ok, Result}
use Rattle.columns.specs.Common.{mark}
use Rattle.machine.specs.Encode.{encode}
use Rattle.answer.specs.declared.Answer.{Answer}
use Rattle.machine.specs.Outcome.{Outcome}

pub record Reply : Type 0 where
  pub answer : Answer
  pub image : List ℕ

abbrev pub reply : Answer → List ℕ → Reply
reply a m = record { answer = a; image = m }

-- a refused image keeps every word; all else in the answer is 0
abbrev pub refuse : ℕ → List ℕ → Reply
refuse r m = record { answer = record { refusal = r; result = 0; interrupt = 0; rule = 0 }; image = m }

-- an outcome of the image m; without room it is refusal 9
unfoldable pub replied : List ℕ → Outcome → Reply
replied m o =
    if o.no_room then refuse 9 m else
    record { answer = record { refusal = 0; result = o.result; interrupt = mark o.interrupt; rule = o.rule }; image = encode o.machine }

-- a call that names a CPU and a context, and one that names a CPU
unfoldable pub reply_to : List ℕ → (ℕ → ℕ → Outcome) → Result (ℕ × ℕ) ℕ → Reply
reply_to m f (Err r) = refuse r m
reply_to m f (Ok (k, x)) = replied m (f k x)

unfoldable pub reply_on : List ℕ → (ℕ → Outcome) → Option ℕ → Reply
reply_on m f None = refuse 5 m
reply_on m f (Some k) = replied m (f k)
