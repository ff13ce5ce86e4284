-- What a contract says of an image: the machine that it stands for, and what a step does to it. Assumes nothing.
use Rattle.std.specs.Prelude.{◌≡◌, ℕ, ◌<◌, ◌≤◌, List, length, get_or}
use Rattle.context.specs.declared.Context.{Context}
use Rattle.entries.specs.declared.Entry.{Entry}
use Rattle.entries.specs.Order.{entry_before, sooner}
use Rattle.entries.specs.Sorted.{Sorted}
use Rattle.percpu.specs.Cpu.{Cpu}
use Rattle.percpu.specs.Layout.{no_entry, no_timer}
use Rattle.machine.specs.Machine.{Machine, context_at, cpu_at}
use Rattle.machine.specs.Encode.{encode}
use Rattle.ticks.specs.Ticks.{max_remainder}
use Rattle.weights.specs.Weights.{full_slice, min_weight, max_weight}

-- The ranges that no accepted call leaves: names, weights, priorities, slices and remainders; and the order of keys and timers. What grows (times, vtime, vd, V) is not here.

-- of a context, where there are c CPUs
pub record ContextFits (c : ℕ) (x : Context) : Type 0 where
  pub cpu_id : x.cpu_id ≤ c
  pub prio : x.prio ≤ 39
  pub rem_slice : x.rem_slice ≤ full_slice

-- of an entry, where there are n contexts
pub record EntryFits (n : ℕ) (e : Entry) : Type 0 where
  pub name : e.context_ref < n
  pub light : e.weight ≤ max_weight
  pub heavy : min_weight ≤ e.weight

-- of a CPU
pub record CpuFits (n : ℕ) (p : Cpu) : Type 0 where
  pub current : p.block.current_ctxt < n
  pub sched : p.block.sched_ctxt < n
  pub idle : p.block.idle_ctxt < n
  pub queue : length p.queue ≤ 64
  pub timers : length p.timers ≤ 64
  pub local : length p.local_wakeup_list ≤ 64
  pub ipi : length p.ipi_context_wakeup_list ≤ 64
  pub entry : (i : ℕ) → i < length p.queue → EntryFits n (get_or p.queue i no_entry)
  pub timer : (i : ℕ) → i < length p.timers → (get_or p.timers i no_timer).context_ref < n
  pub local_name : (i : ℕ) → i < length p.local_wakeup_list → get_or p.local_wakeup_list i 0 < n
  pub ipi_name : (i : ℕ) → i < length p.ipi_context_wakeup_list → get_or p.ipi_context_wakeup_list i 0 < n
  pub keys_rise : Sorted entry_before p.queue
  pub timers_rise : Sorted sooner p.timers
  pub remainder : p.remainder ≤ max_remainder

-- M has c CPUs and n contexts, within their bounds, and all of it fits
pub record Fits (c n : ℕ) (M : Machine) : Type 0 where
  pub bounds : (1 ≤ c) × (c ≤ 4) × (1 ≤ n) × (n ≤ 64)
  pub cpus : length M.cpus ≡ c
  pub contexts : length M.contexts ≡ n
  pub context : (x : ℕ) → x < n → ContextFits c (context_at M.contexts x)
  pub cpu : (k : ℕ) → k < c → CpuFits n (cpu_at M k)

-- m is the image of a machine of c CPUs and n contexts
pub record Image (c n : ℕ) (m : List ℕ) : Type 0 where
  pub M : Machine
  pub eq : m ≡ encode M
  pub fits : Fits c n M

-- m became m' and r was returned: of each machine that m stood for, m' is the image of `f` of it and r is `g` of it
pub record Step {R : Type 0} (c n : ℕ) (m m' : List ℕ) (r : R) (f : Machine → Machine) (g : Machine → R) : Type 0 where
  pub image : Image c n m'
  pub step : (M : Machine) → m ≡ encode M → Fits c n M → (m' ≡ encode (f M)) × (Fits c n (f M)) × (r ≡ g M)

-- a step that returns nothing
abbrev pub Went : ℕ → ℕ → List ℕ → List ℕ → (Machine → Machine) → Type 0
Went c n m m' f = Step {R = ℕ} c n m m' 0 f (λ (M : Machine). 0)
