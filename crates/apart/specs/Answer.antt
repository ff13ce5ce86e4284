-- Whether two CPUs name no context together (document 02, No. 14), as a call answers it. Assumes nothing.
use Rattle.std.specs.Prelude.{None, Option, Some, ℕ}
use Rattle.columns.specs.Common.{mark}
use Rattle.answer.specs.declared.Answer.{Answer}
use Rattle.machine.specs.Machine.{Machine}
use Rattle.model_local.specs.Apart.{are_apart}

-- of CPUs that were looked up: 1 if they are apart. Every CPU names its own idle context, so no CPU is apart from itself
unfoldable pub apart_answer : Machine → (one other : Option ℕ) → Answer
apart_answer M None q = record { refusal = 5; result = 0; interrupt = 0; rule = 0 }
apart_answer M (Some a) None = record { refusal = 5; result = 0; interrupt = 0; rule = 0 }
apart_answer M (Some a) (Some b) = record { refusal = 0; result = mark (are_apart M a b); interrupt = 0; rule = 0 }
