-- The contract of a stage of a decision: what it does to the image of a machine, on CPU k. Assumes nothing.
use Rattle.std.specs.Prelude.{◌≡◌, Bool, true, false, ℕ, ◌<◌, ◌≤◌, List, length, get_or, set}
use Rattle.context.specs.declared.Context.{Context}
use Rattle.percpu.specs.Cpu.{Cpu}
use Rattle.percpu.specs.Layout.{no_entry, no_timer}
use Rattle.machine.specs.Machine.{Machine, context_at, cpu_at}
use Rattle.machine.specs.Encode.{encode}
use Rattle.machine.specs.Shape.{Fits, Image}
use Rattle.model.specs.State.{State, state_of}

-- the machine with the state of CPU k put back
abbrev pub put_state : ℕ → State → Machine → Machine
put_state k s M = record { contexts = s.contexts; cpus = set M.cpus k s.cpu }

-- of one machine M that m stood for: `full` says whether an insertion of f found no room; if not, m' stands for f of the state, and r is g of it
pub record StageAt {R : Type 0} (c n k : ℕ) (m' : List ℕ) (full : Bool) (r : R) (f : State → State) (g : State → R) (M : Machine) : Type 0 where
  pub room : full ≡ (f (state_of k M)).no_room
  pub after : full ≡ false → m' ≡ encode (put_state k (f (state_of k M)) M)
  pub fits : full ≡ false → Fits c n (put_state k (f (state_of k M)) M)
  pub answer : full ≡ false → r ≡ g (state_of k M)

-- m became m', and `full` and r were returned
pub record Stage {R : Type 0} (c n k : ℕ) (m m' : List ℕ) (full : Bool) (r : R) (f : State → State) (g : State → R) : Type 0 where
  pub image : full ≡ false → Image c n m'
  pub stage : (M : Machine) → m ≡ encode M → Fits c n M → StageAt c n k m' full r f g M

-- a stage that returns nothing but whether there was room
abbrev pub Staged : (c n k : ℕ) → List ℕ → List ℕ → Bool → (State → State) → Type 0
Staged c n k m m' full f = Stage {R = ℕ} c n k m m' full 0 f (λ (s : State). 0)

-- What grows in a decision: times and counters at most t, virtual times and weights at most b.
pub record ContextBelow (t b : ℕ) (x : Context) : Type 0 where
  pub schedule_time : x.schedule_time ≤ t
  pub switch_time : x.switch_time ≤ t
  pub active_cpu_time : x.active_cpu_time ≤ t
  pub sched_cpu_time : x.sched_cpu_time ≤ t
  pub wake : x.wake ≤ t
  pub vtime : x.vtime ≤ b
  pub vd : x.vd ≤ b
  pub key_vd : x.queue_key_vd ≤ b

pub record CpuBelow (t b : ℕ) (p : Cpu) : Type 0 where
  pub schedule_time : p.block.schedule_time ≤ t
  pub pit_ticks : p.block.pit_ticks ≤ t
  pub user : p.block.stats.user ≤ t
  pub kernel : p.block.stats.kernel ≤ t
  pub idle : p.block.stats.idle ≤ t
  pub context_switches : p.block.stats.context_switches ≤ t
  pub syscall_switches : p.block.stats.syscall_switches ≤ t
  pub v : p.block.v ≤ b
  pub total_weight : p.block.total_weight ≤ b
  pub entry_vtime : (i : ℕ) → i < length p.queue → (get_or p.queue i no_entry).vtime ≤ b
  pub entry_vd : (i : ℕ) → i < length p.queue → (get_or p.queue i no_entry).key.vd ≤ b
  pub timer_wake : (i : ℕ) → i < length p.timers → (get_or p.timers i no_timer).wake ≤ t

-- of a state, of n contexts
pub record StateBelow (n t b : ℕ) (s : State) : Type 0 where
  pub context : (x : ℕ) → x < n → ContextBelow t b (context_at s.contexts x)
  pub cpu : CpuBelow t b s.cpu

-- of a machine, all CPUs
pub record Below (c n t b : ℕ) (M : Machine) : Type 0 where
  pub context : (x : ℕ) → x < n → ContextBelow t b (context_at M.contexts x)
  pub cpu : (k : ℕ) → k < c → CpuBelow t b (cpu_at M k)

-- an image of a machine below its bounds: what a function that adds asks for
pub record Ranged (c n t b : ℕ) (m : List ℕ) : Type 0 where
  pub M : Machine
  pub eq : m ≡ encode M
  pub fits : Fits c n M
  pub below : Below c n t b M
