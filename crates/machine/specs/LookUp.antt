-- A context and a CPU by their numbers, any number. Assumes nothing.
use Rattle.std.specs.Prelude.{ℕ, leb, length, if◌then◌else◌, None, Option, Some}
use Rattle.machine.specs.Machine.{Machine, context_at, cpu_at}

-- not below N, or gone
unfoldable pub look_up : Machine → ℕ → Option ℕ
look_up M x =
    if leb (length M.contexts) x then None else
    if (context_at M.contexts x).gone then None else Some x

-- not below C, or absent
unfoldable pub get_percpu_block : Machine → ℕ → Option ℕ
get_percpu_block M k =
    if leb (length M.cpus) k then None else
    if (cpu_at M k).block.present then Some k else None
