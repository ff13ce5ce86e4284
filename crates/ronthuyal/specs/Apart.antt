-- The call that says whether two CPUs name no context together (document 02, No. 14). Assumes nothing.
use Rattle.std.specs.Prelude.{ℕ, List}
use Rattle.machine.specs.Machine.{Machine}
use Rattle.machine.specs.LookUp.{get_percpu_block}
use Rattle.context_ops.specs.Reply.{Reply, reply}
use Rattle.apart.specs.Answer.{apart_answer}
use Rattle.calls.specs.Call.{checked}

-- there is no time
abbrev pub apart_call : List ℕ → (one other : ℕ) → Reply
apart_call m one other = checked m 0 (λ (M : Machine). reply (apart_answer M (get_percpu_block M one) (get_percpu_block M other)) m)
