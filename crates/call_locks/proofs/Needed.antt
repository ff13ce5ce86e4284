-- The machines on which other words change the answer, by computing.
use Rattle.std.specs.Prelude.{Err, Ok, Result}
use mathlib.Core.Path.{◌≡◌, refl}
use mathlib.Core.Bool.{true}
use Prim.Native.Nat.{ℕ}
use native.Mathlib.Omega.{arith}
use Rattle.machine.specs.LookUp.{look_up, get_percpu_block}
use Rattle.context_ops.specs.Named.{named_context, named_on, named}
use Rattle.model.specs.Opened.{opened}
use Rattle.model_cases.specs.Starred.{idler, worker, start, worked}
use Rattle.model_local.specs.Local.{with_others}
use Rattle.call_order.specs.Machines.{stolen_first, counted_out}
use Rattle.call_locks.specs.Locks.{Locks, relocked_context, relocked_cpu, relocked_cpus, names_here, is_queued, may_steal}
use Rattle.call_locks.specs.Needed.{asleep, NamedRead, QueuedRead, QueueLockRead, OwnRead}

-- every lock is read by another CPU, every queue locked
abbrev locked : Locks
locked = record { lock = λ x. 1; addr_space = λ x. 0; queue_locked = λ j. true }

-- the worker that is queued runs, or is passed over
pub named_read : NamedRead
unfolding opened idler worker start worked with_others relocked_context relocked_cpu relocked_cpus names_here may_steal
named_read =
    record {
      M = worked;
      l = locked;
      k = 0;
      time = 2250000;
      x = 1;
      named_here = refl;
      no_stealing = refl;
      differs = λ (e : ◌≡◌ {A = ℕ} 2 1). omega arith;
    }

-- the worker that sleeps is woken by its timer and runs, or sleeps on
pub timed_read : NamedRead
unfolding opened idler worker start asleep with_others relocked_context relocked_cpu relocked_cpus names_here may_steal
timed_read =
    record {
      M = asleep;
      l = locked;
      k = 0;
      time = 2250000;
      x = 1;
      named_here = refl;
      no_stealing = refl;
      differs = λ (e : ◌≡◌ {A = ℕ} 2 1). omega arith;
    }

-- it is stolen, or passed over
pub queued_read : QueuedRead
unfolding opened idler worker start stolen_first with_others relocked_context relocked_cpu relocked_cpus names_here is_queued may_steal
queued_read =
    record {
      M = stolen_first;
      l = locked;
      k = 0;
      time = 2250000;
      x = 1;
      not_here = refl;
      stealing = refl;
      queued = refl;
      differs = λ (e : ◌≡◌ {A = ℕ} 2 1). omega arith;
    }

-- it is stolen, or its queue is passed over
pub queue_lock_read : QueueLockRead
unfolding opened idler worker start stolen_first with_others relocked_context relocked_cpu relocked_cpus may_steal
queue_lock_read =
    record {
      M = stolen_first;
      l = locked;
      k = 0;
      time = 2250000;
      j = 1;
      other = λ (e : ◌≡◌ {A = ℕ} 1 0). omega arith;
      stealing = refl;
      differs = λ (e : ◌≡◌ {A = ℕ} 2 1). omega arith;
    }

-- nobody names the worker: it is found, or refused with 6
pub own_read : OwnRead
unfolding opened idler worker start counted_out with_others relocked_context relocked_cpu relocked_cpus names_here look_up get_percpu_block named_context named_on named
own_read =
    record {
      M = counted_out;
      l = locked;
      k = 0;
      x = 1;
      not_here = refl;
      differs = λ (e : ◌≡◌ {A = Result (ℕ × ℕ) ℕ} (Err 6) (Ok (0, 1))). let z : ◌≡◌ {A = ℕ} 0 1 = cc in omega arith;
    }
