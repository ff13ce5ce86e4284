-- The image: document 01's words of a machine, and the machine that words stand for. Assumes nothing.
use Rattle.std.specs.Prelude.{ℕ, ◌+◌, ◌*◌, List, [], ◌∷◌, ◌++◌, length, get_or}
use Rattle.columns.specs.Common.{tabulate}
use Rattle.columns.specs.Blocks.{cat, part}
use Rattle.context.specs.Words.{context_words, context_of, length_context_words, record_size}
use Rattle.percpu.specs.Layout.{cpu_words, cpu_of, length_cpu_words}
use Rattle.machine.specs.Machine.{Machine}
use Rattle.percpu.specs.Places.{block_size}

unfoldable pub encode : Machine → List ℕ
encode M =
    (length M.cpus ∷ length M.contexts ∷ [])
    ++ (cat context_words record_size length_context_words M.contexts ++ cat cpu_words block_size length_cpu_words M.cpus)

-- where the record of context x and the block of CPU k begin, of n contexts
abbrev pub context_place : ℕ → ℕ
context_place x = 2 + record_size * x

abbrev pub cpu_place : ℕ → ℕ → ℕ
cpu_place n k = context_place n + block_size * k

-- the longest image: 4 CPUs and 64 contexts
abbrev pub max_image_size : ℕ
max_image_size = cpu_place 64 4

unfoldable pub decode : List ℕ → Machine
decode m =
    record {
      contexts = tabulate (get_or m 1 0) (λ (x : ℕ). context_of (part m (context_place x) record_size));
      cpus = tabulate (get_or m 0 0) (λ (k : ℕ). cpu_of (part m (cpu_place (get_or m 1 0) k) block_size));
    }
