-- What is said of a CPU's timers. Assumes nothing.
use Rattle.std.specs.Prelude.{◌≡◌, true, false, List, ℕ}
use Rattle.columns.specs.Common.{In}
use Rattle.entries.specs.declared.Timer.{Timer}
use Rattle.entries.specs.Order.{is_due}
use Rattle.machine.specs.Machine.{Machine, context_at, cpu_at}
use Rattle.model.specs.State.{State}
use Rattle.model.specs.Wakeup.{is_unreadable, waits_for}

-- a context has one timer at most
abbrev pub Alone : List Timer → Type 0
Alone l = (t u : Timer) → In t l → In u l → t.context_ref ≡ u.context_ref → t ≡ u

-- every due timer's context can be read or is gone
abbrev pub Readable : ℕ → State → Type 0
Readable time s = (t : Timer) → In t s.cpu.timers → is_due time t ≡ true → is_unreadable s t.context_ref ≡ false

-- where M' is left of M: t was removed on CPU k for the newest timer of the context in charge, for whose wake t does not stand
pub record Superseded (k : ℕ) (M M' : Machine) (t : Timer) : Type 0 where
  pub in_charge : t.context_ref ≡ (cpu_at M k).block.sched_ctxt
  pub unfit : waits_for t.wake (context_at M.contexts t.context_ref) ≡ false
  pub newest : In (record { wake = (context_at M.contexts t.context_ref).wake; context_ref = t.context_ref }) (cpu_at M' k).timers
