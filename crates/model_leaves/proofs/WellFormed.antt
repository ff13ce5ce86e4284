-- Well-formed machines: what refusals 1 to 4 ask of an image, but for the numbers that a call can raise over their range. Assumes nothing.
use mathlib.Core.Path.{◌≡◌}
use mathlib.Core.Bool.{Bool, true, false}
use mathlib.Core.List.{List, [], ◌∷◌}
use Prim.Native.Nat.{ℕ, ◌<◌, ◌≤◌}
use lib.ListN.{length}
use Rattle.columns.specs.Common.{All}
use Rattle.context.specs.declared.Context.{Context}
use Rattle.context.specs.Words.{context_of}
use Rattle.entries.specs.declared.Entry.{Entry}
use Rattle.entries.specs.declared.Timer.{Timer}
use Rattle.entries.specs.Order.{sooner}
use Rattle.entries.specs.Sorted.{Sorted}
use Rattle.percpu.specs.Cpu.{Cpu}
use Rattle.machine.specs.Machine.{Machine, context_at, cpu_at, no_cpu}
use Rattle.model.proofs.Ordered.{Ordered}
use Rattle.model_timers.specs.Timers.{Alone}
use Rattle.numbers.specs.Limits.{max_id, max_number, max_word}
use Rattle.ticks.specs.Ticks.{max_remainder}
use Rattle.weights.specs.Weights.{full_slice, min_weight, max_weight}

-- a view of a context: what no call changes
pub record Fixed : Type 0 where
  pub gone : Bool
  pub debug_id : ℕ
  pub sched_affinity : ℕ
  pub prio : ℕ
  pub lock : ℕ
  pub addr_space : ℕ

abbrev pub fixed : Context → Fixed
fixed x =
    record {
      gone = x.gone;
      debug_id = x.debug_id;
      sched_affinity = x.sched_affinity;
      prio = x.prio;
      lock = x.lock;
      addr_space = x.addr_space;
    }

-- a view of a context: what a call may change, and keeps in its range
pub record Changing : Type 0 where
  pub cpu_id : ℕ
  pub schedule_time : ℕ
  pub switch_time : ℕ
  pub has_wake : Bool
  pub wake : ℕ
  pub rem_slice : ℕ
  pub has_key : Bool
  pub key_vd : ℕ
  pub key_rem_slice : ℕ

abbrev pub changing : Context → Changing
changing x =
    record {
      cpu_id = x.cpu_id;
      schedule_time = x.schedule_time;
      switch_time = x.switch_time;
      has_wake = x.has_wake;
      wake = x.wake;
      rem_slice = x.rem_slice;
      has_key = x.has_queue_key;
      key_vd = x.queue_key_vd;
      key_rem_slice = x.queue_key_rem_slice;
    }

pub record FixedFormed (f : Fixed) : Type 0 where
  pub sched_affinity : f.sched_affinity ≤ max_word
  pub prio : f.prio ≤ 39
  pub lock : f.lock ≤ 2
  pub addr_space : f.addr_space ≤ 2

-- where there are c CPUs
pub record ChangingFormed (c : ℕ) (h : Changing) : Type 0 where
  pub cpu_id : h.cpu_id ≤ c
  pub schedule_time : h.schedule_time ≤ max_number
  pub switch_time : h.switch_time ≤ max_number
  pub wake : h.wake ≤ max_number
  pub no_wake : h.has_wake ≡ false → h.wake ≡ 0
  pub rem_slice : h.rem_slice ≤ full_slice
  pub key_rem_slice : h.key_rem_slice ≤ full_slice
  pub no_key : h.has_key ≡ false → (h.key_vd ≡ 0) × (h.key_rem_slice ≡ 0)

-- a gone record of an id: every other word is 0
abbrev pub gone_context : ℕ → Context
gone_context id = context_of (1 ∷ id ∷ [])

pub record ContextFormed (c : ℕ) (x : Context) : Type 0 where
  pub id : x.debug_id ≤ max_id
  pub gone : x.gone ≡ true → x ≡ gone_context x.debug_id
  pub fixed_formed : x.gone ≡ false → FixedFormed (fixed x)
  pub changing_formed : x.gone ≡ false → ChangingFormed c (changing x)

-- cs: the contexts
module _ (n : ℕ) (cs : List Context) where
  -- one of n, and not gone
  pub record LiveName (x : ℕ) : Type 0 where
    pub below : x < n
    pub live : (context_at cs x).gone ≡ false

  pub record EntryFormed (e : Entry) : Type 0 where
    pub name : e.context_ref < n
    pub light : e.weight ≤ max_weight
    pub heavy : min_weight ≤ e.weight
    pub rem_slice : e.key.rem_slice ≤ full_slice
    pub id : e.key.ctxt_id ≡ (context_at cs e.context_ref).debug_id

  abbrev pub QueueFormed : List Entry → Type 0
  QueueFormed q = Ordered EntryFormed q

pub record TimerFormed (n : ℕ) (t : Timer) : Type 0 where
  pub name : t.context_ref < n
  pub wake : t.wake ≤ max_number

pub record TimersFormed (n : ℕ) (l : List Timer) : Type 0 where
  pub each : All (TimerFormed n) l
  pub rise : Sorted sooner l

abbrev pub NamesFormed : ℕ → List ℕ → Type 0
NamesFormed n l = All (λ (x : ℕ). x < n) l

-- a view of a CPU: its scalars, but for those that a call can raise and those that are marks or states
pub record Scalars : Type 0 where
  pub present : Bool
  pub current_ctxt : ℕ
  pub sched_ctxt : ℕ
  pub idle_ctxt : ℕ
  pub schedule_time : ℕ
  pub steal_counter : ℕ
  pub remainder : ℕ

-- its lists, and the length that it publishes
pub record Lists : Type 0 where
  pub queue_len : ℕ
  pub queue : List Entry
  pub timers : List Timer
  pub local : List ℕ
  pub ipi : List ℕ

pub record View : Type 0 where
  pub scalars : Scalars
  pub lists : Lists

abbrev pub view : Cpu → View
view p =
    record {
      scalars = record {
        present = p.block.present;
        current_ctxt = p.block.current_ctxt;
        sched_ctxt = p.block.sched_ctxt;
        idle_ctxt = p.block.idle_ctxt;
        schedule_time = p.block.schedule_time;
        steal_counter = p.block.steal_counter;
        remainder = p.remainder;
      };
      lists = record {
        queue_len = p.block.queue_len;
        queue = p.queue;
        timers = p.timers;
        local = p.local_wakeup_list;
        ipi = p.ipi_context_wakeup_list;
      };
    }

-- of a CPU that is present
pub record ScalarsFormed (n : ℕ) (cs : List Context) (s : Scalars) : Type 0 where
  pub present : s.present ≡ true
  pub current : LiveName n cs s.current_ctxt
  pub sched : LiveName n cs s.sched_ctxt
  pub idle : LiveName n cs s.idle_ctxt
  pub schedule_time : s.schedule_time ≤ max_number
  pub steal_counter : s.steal_counter ≤ max_word
  pub remainder : s.remainder ≤ max_remainder

pub record ListsFormed (n : ℕ) (cs : List Context) (l : Lists) : Type 0 where
  pub queue : QueueFormed n cs l.queue
  pub timers : TimersFormed n l.timers
  pub local : NamesFormed n l.local
  pub ipi : NamesFormed n l.ipi

pub record CpuFormed (n : ℕ) (cs : List Context) (p : View) : Type 0 where
  pub scalars : ScalarsFormed n cs p.scalars
  pub lists : ListsFormed n cs p.lists

-- the lists fit into their arrays
pub record Room (l : Lists) : Type 0 where
  pub queue : length l.queue ≤ 64
  pub timers : length l.timers ≤ 64
  pub local : length l.local ≤ 64
  pub ipi : length l.ipi ≤ 64
  pub queue_len : l.queue_len ≤ max_number

-- every word of an absent CPU is 0
pub data Stands (n : ℕ) (cs : List Context) (p : Cpu) : Type 0 where
  absent : p ≡ no_cpu → Stands n cs p
  present : CpuFormed n cs (view p) → Room (view p).lists → Stands n cs p

-- a machine of c CPUs and n contexts
pub record WellFormed (c n : ℕ) (M : Machine) : Type 0 where
  pub bounds : (1 ≤ c) × (c ≤ 4) × (1 ≤ n) × (n ≤ 64)
  pub cpus : length M.cpus ≡ c
  pub contexts : length M.contexts ≡ n
  pub context : (x : ℕ) → x < n → ContextFormed c (context_at M.contexts x)
  pub ids_differ : (x y : ℕ) → x < n → y < n → (context_at M.contexts x).debug_id ≡ (context_at M.contexts y).debug_id → x ≡ y
  pub cpu : (k : ℕ) → k < c → Stands n M.contexts (cpu_at M k)
  pub alone : (k : ℕ) → Alone (cpu_at M k).timers
