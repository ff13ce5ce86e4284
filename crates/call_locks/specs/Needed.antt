-- Each of what a call reads is needed: machines on which other words of one context, or of one CPU, change the answer. Assumes nothing.
use Rattle.std.specs.Prelude.{◌≡◌, ◌≢◌, Bool, true, false, not, [], ◌∷◌, ℕ, eqb}
use Rattle.context.specs.declared.Status.TheVariants.{Blocked}
use Rattle.context.specs.With.{with_status, with_has_wake, with_wake, with_is_active}
use Rattle.context.specs.Key.{without_key}
use Rattle.percpu.specs.With.{cpu_queue, cpu_timers, cpu_stealable, cpu_queue_len, cpu_published_weight, cpu_total_weight}
use Rattle.machine.specs.Machine.{Machine, cpu_at}
use Rattle.model.specs.Schedule.{switch}
use Rattle.model_cases.specs.Starred.{idler, worker, start}
use Rattle.context_ops.specs.Named.{named}
use Rattle.call_locks.specs.Locks.{Locks, relocked, names_here, is_queued, may_steal}

-- all but one keep their words, or all do
abbrev pub all_but : ℕ → ℕ → Bool
all_but x y = not (eqb y x)

abbrev pub all : ℕ → Bool
all y = true

-- document 01's worked example, but the worker sleeps until its timer comes due
unfoldable pub asleep : Machine
asleep =
    record {
      contexts = idler ∷ with_status Blocked (with_has_wake true (with_wake 2250000 (without_key (with_is_active false worker)))) ∷ [];
      cpus =
          cpu_timers (record { wake = 2250000; context_ref = 1 } ∷ [])
          (cpu_queue [] (cpu_stealable false (cpu_queue_len 0 (cpu_published_weight 0 (cpu_total_weight 0 start))))) ∷ [];
    }

-- a context that the CPU names; nothing is stolen
pub record NamedRead : Type 0 where
  pub M : Machine
  pub l : Locks
  pub k : ℕ
  pub time : ℕ
  pub x : ℕ
  pub named_here : names_here (cpu_at M k) x ≡ true
  pub no_stealing : may_steal M k ≡ false
  pub differs : (switch k time (relocked (all_but x) all l M)).result ≢ (switch k time M).result

-- a context that is queued on another CPU, where the counter allows stealing
pub record QueuedRead : Type 0 where
  pub M : Machine
  pub l : Locks
  pub k : ℕ
  pub time : ℕ
  pub x : ℕ
  pub not_here : names_here (cpu_at M k) x ≡ false
  pub stealing : may_steal M k ≡ true
  pub queued : is_queued M.cpus x ≡ true
  pub differs : (switch k time (relocked (all_but x) all l M)).result ≢ (switch k time M).result

-- another CPU's queue lock, where the counter allows stealing
pub record QueueLockRead : Type 0 where
  pub M : Machine
  pub l : Locks
  pub k : ℕ
  pub time : ℕ
  pub j : ℕ
  pub other : j ≢ k
  pub stealing : may_steal M k ≡ true
  pub differs : (switch k time (relocked all (all_but j) l M)).result ≢ (switch k time M).result

-- the context that a call is with, and that nobody names
pub record OwnRead : Type 0 where
  pub M : Machine
  pub l : Locks
  pub k : ℕ
  pub x : ℕ
  pub not_here : names_here (cpu_at M k) x ≡ false
  pub differs : named (relocked (all_but x) all l M) k x ≢ named M k x
