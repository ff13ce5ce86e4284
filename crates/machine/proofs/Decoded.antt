-- `decode (encode M) ≡ M`, of a machine whose lists fit into their arrays. Assumes nothing.
use mathlib.Core.Path.{◌≡◌}
use Prim.Native.Nat.{ℕ, ◌<◌}
use lib.ListN.{length, get_or}
use Rattle.columns.specs.Common.{tabulate}
use Rattle.columns.specs.Blocks.{part}
use Rattle.columns.proofs.Tabulate.{tabulate_is}
use Rattle.context.specs.Words.{context_of, context_of_words, record_size}
use Rattle.percpu.specs.Layout.{cpu_of}
use Rattle.percpu.proofs.Read.{Short, cpu_of_words}
use Rattle.machine.specs.Machine.{Machine, cpu_at, no_context, no_cpu}
use Rattle.machine.specs.Encode.{encode, decode, context_place, cpu_place}
use Rattle.machine.proofs.Places.{context_part, cpu_part, size_cpus, size_contexts}
use Rattle.percpu.specs.Places.{block_size}

pub decode_encode : (M : Machine) → ((k : ℕ) → k < length M.cpus → Short (cpu_at M k)) → decode (encode M) ≡ M
unfolding decode cpu_at
decode_encode M o =
    let a : tabulate (get_or (encode M) 1 0) (λ (x : ℕ). context_of (part (encode M) (context_place x) record_size)) ≡ M.contexts
    = rw (size_contexts M)
    (tabulate_is no_context M.contexts (λ (x : ℕ). context_of (part (encode M) (context_place x) record_size))
    (λ x h. rw (context_part M x no_context h) (context_of_words _)))
    in let b : tabulate (get_or (encode M) 0 0) (λ (k : ℕ). cpu_of (part (encode M) (cpu_place (get_or (encode M) 1 0) k) block_size)) ≡ M.cpus
    = rw (size_cpus M, size_contexts M)
    (tabulate_is no_cpu M.cpus (λ (k : ℕ). cpu_of (part (encode M) (cpu_place (length M.contexts) k) block_size))
    (λ k h. rw (cpu_part M k h) (cpu_of_words _ (o k h))))
    in rw (a, b)
