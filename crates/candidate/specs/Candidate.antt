-- A CPU and a context that is on no CPU: neither queued nor in charge (document 02, No. 12). Assumes nothing.
use Rattle.std.specs.Prelude.{Bool, true, false, not, ℕ, List, eqb, length, get_or, if◌then◌else◌, None, Option, Some, Err, Ok, Result}
use Rattle.columns.specs.Common.{every}
use Rattle.entries.specs.declared.Entry.{Entry}
use Rattle.percpu.specs.Cpu.{Cpu}
use Rattle.percpu.specs.Layout.{no_entry}
use Rattle.machine.specs.Machine.{Machine, cpu_at}
use Rattle.machine.specs.LookUp.{look_up, get_percpu_block}

-- no entry of the queue is context x's
unfoldable pub not_queued : (x : ℕ) → List Entry → Bool
not_queued x q = every (λ (i : ℕ). not (eqb (get_or q i no_entry).context_ref x)) (length q)

-- context x is not in charge of the CPU, nor queued there; on an absent one nobody is
unfoldable pub not_on : (x : ℕ) → Cpu → Bool
not_on x p =
    if not p.block.present then true else
    if eqb p.block.sched_ctxt x then false else not_queued x p.queue

-- on any CPU of the machine
unfoldable pub on_none : Machine → (x : ℕ) → Bool
on_none M x = every (λ (k : ℕ). not_on x (cpu_at M k)) (length M.cpus)

-- refusal 5: an absent CPU; a context that is gone, queued or in charge
unfoldable pub candidate_context : Machine → (k : ℕ) → Option ℕ → Result (ℕ × ℕ) ℕ
candidate_context M k None = Err 5
candidate_context M k (Some x) = if on_none M x then Ok (k, x) else Err 5

unfoldable pub candidate_on : Machine → (context : ℕ) → Option ℕ → Result (ℕ × ℕ) ℕ
candidate_on M context None = Err 5
candidate_on M context (Some k) = candidate_context M k (look_up M context)

unfoldable pub candidate : Machine → (cpu context : ℕ) → Result (ℕ × ℕ) ℕ
candidate M cpu context = candidate_on M context (get_percpu_block M cpu)
