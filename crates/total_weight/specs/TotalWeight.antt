-- A CPU's weight, added up from its contexts (document 02, No. 7). Assumes nothing.
use Rattle.std.specs.Prelude.{List, [], ◌∷◌, map, ℕ, ◌+◌, if◌then◌else◌, None, Option, Some}
use Rattle.context.specs.declared.Context.{Context}
use Rattle.entries.specs.declared.Entry.{Entry}
use Rattle.weights.specs.Weights.{weight}
use Rattle.percpu.specs.Cpu.{Cpu}
use Rattle.answer.specs.declared.Answer.{Answer}
use Rattle.machine.specs.Machine.{Machine, context_at, cpu_at}

abbrev pub sum : List ℕ → ℕ
sum [] = 0
sum (w ∷ ws) = w + sum ws

-- the weights of the entries of a queue, also of those whose context is gone
abbrev pub queue_weights : List Entry → List ℕ
queue_weights q = map (λ (e : Entry). e.weight) q

-- the context in charge counts only if it is active
abbrev pub with_in_charge : Context → List ℕ → List ℕ
with_in_charge c ws = if c.is_active then weight c.prio ∷ ws else ws

-- what counts on a CPU, among the contexts cs
unfoldable pub items_of : List Context → Cpu → List ℕ
items_of cs p = with_in_charge (context_at cs p.block.sched_ctxt) (queue_weights p.queue)

unfoldable pub total_weight_of : Machine → (cpu : ℕ) → ℕ
total_weight_of M i = sum (items_of M.contexts (cpu_at M i))

-- the answer of a CPU that was looked up
unfoldable pub total_weight_answer : Machine → Option ℕ → Answer
total_weight_answer M None = record { refusal = 5; result = 0; interrupt = 0; rule = 0 }
total_weight_answer M (Some k) = record { refusal = 0; result = total_weight_of M k; interrupt = 0; rule = 0 }
