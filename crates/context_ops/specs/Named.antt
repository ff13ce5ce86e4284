-- The CPU and the context that a call names: refusals 5 and 6, in the table's order. Assumes nothing.
use Rattle.std.specs.Prelude.{ℕ, eqb, if◌then◌else◌, None, Option, Some, Err, Ok, Result}
use Rattle.machine.specs.Machine.{Machine, context_at}
use Rattle.machine.specs.LookUp.{look_up, get_percpu_block}

-- a context that is not gone, and its lock free
unfoldable pub named_context : Machine → ℕ → Option ℕ → Result (ℕ × ℕ) ℕ
named_context M k None = Err 5
named_context M k (Some x) = if eqb (context_at M.contexts x).lock 0 then Ok (k, x) else Err 6

unfoldable pub named_on : Machine → ℕ → Option ℕ → Result (ℕ × ℕ) ℕ
named_on M context None = Err 5
named_on M context (Some k) = named_context M k (look_up M context)

unfoldable pub named : Machine → (cpu context : ℕ) → Result (ℕ × ℕ) ℕ
named M cpu context = named_on M context (get_percpu_block M cpu)
