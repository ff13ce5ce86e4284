-- The words that are written: a column, a block, an image. Assumes nothing.
use Rattle.std.specs.Prelude.{◌≡◌, List, ◌++◌, map, ℕ, ◌≤◌, length, set}
use Rattle.columns.specs.Blocks.{flat}
use Rattle.context.specs.declared.Context.{Context}
use Rattle.entries.specs.declared.Entry.{Entry}
use Rattle.percpu.specs.Places.{front_size}
use Rattle.percpu.specs.Cpu as model
use Rattle.machine.specs.Machine.{Machine}
use Rattle.machine.specs.Encode.{encode, cpu_place}
use Rattle.plain_model.specs.State.{placed_cpu}
use Rattle.plain_state.specs.declared.Cpu.{Cpu}
use Rattle.plain_state.specs.States.{cpu_in}
use Rattle.plain_words.specs.declared.store.Column.{Column}
use Rattle.plain_words.specs.declared.store.Column.TheVariants.{Deadline, RemSlice, CtxtId, Vtime, Weight, ContextRef}

unfoldable pub word_of : Column → Entry → ℕ
word_of Deadline e = e.key.vd
word_of RemSlice e = e.key.rem_slice
word_of CtxtId e = e.key.ctxt_id
word_of Vtime e = e.vtime
word_of Weight e = e.weight
word_of ContextRef e = e.context_ref

-- w is a block's front, ten columns and what stands behind them
pub record Laid (front : List ℕ) (cols : List (List ℕ)) (last : List ℕ) (w : List ℕ) : Type 0 where
  pub size : length front ≡ front_size
  pub ten : length cols ≡ 10
  pub is : w ≡ front ++ (flat cols ++ last)

-- from w to w' the columns became f of them
pub record Puts (f : List (List ℕ) → List (List ℕ)) (w w' : List ℕ) : Type 0 where
  pub puts : (front : List ℕ) (cols : List (List ℕ)) (last : List ℕ) → Laid front cols last w → Laid front (f cols) last w'

-- the six columns of the queue; the four behind them
abbrev pub queue_columns : List Entry → List (List ℕ) → List (List ℕ)
queue_columns q cols =
    set (set (set (set (set (set cols 0 (map (word_of Deadline) q)) 1 (map (word_of RemSlice) q)) 2 (map (word_of CtxtId) q)) 3 (map (word_of Vtime) q)) 4 (map (word_of Weight) q)) 5
    (map (word_of ContextRef) q)

abbrev pub list_columns : List Entry → List ℕ → List ℕ → List (List ℕ) → List (List ℕ)
list_columns timers local ipi cols = set (set (set (set cols 6 (map (word_of Deadline) timers)) 7 (map (word_of CtxtId) timers)) 8 local) 9 ipi

-- m is as long as the image of a machine of c CPUs and n contexts
pub record ImageSized (c n : ℕ) (m : List ℕ) : Type 0 where
  pub bounds : (c ≤ 4) × (n ≤ 64)
  pub size : length m ≡ cpu_place n c

-- of each machine of c CPUs and n contexts that m stood for, m' is the image of f of it
pub record Encoded (c n : ℕ) (m m' : List ℕ) (f : Machine → Machine) : Type 0 where
  pub sized : ImageSized c n m'
  pub encoded : (M : Machine) → length M.cpus ≡ c → length M.contexts ≡ n → m ≡ encode M → m' ≡ encode (f M)

abbrev pub placed_in : Cpu → model.Cpu
placed_in p = placed_cpu (cpu_in p)

abbrev pub with_contexts : List Context → Machine → Machine
with_contexts cs M = record { contexts = cs; cpus = M.cpus }

abbrev pub with_cpus : List model.Cpu → Machine → Machine
with_cpus ps M = record { contexts = M.contexts; cpus = ps }
