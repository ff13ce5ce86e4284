-- What the code's state stands for. Assumes nothing.
use Rattle.std.specs.Prelude.{◌≡◌, Bool, false, not, ◌||◌, List, map, ℕ, ◌≤◌, length, take}
use Rattle.columns.specs.Common.{All}
use Rattle.entries.specs.declared.Entry.{Entry}
use Rattle.entries.specs.declared.Timer.{Timer}
use Rattle.entries.specs.Order.{superseded}
use Rattle.percpu.specs.Cpu as model
use Rattle.percpu.specs.With.{cpu_queue, cpu_timers, cpu_queue_len}
use Rattle.model.specs.State as model_state
use Rattle.plain_lists.specs.declared.fixed.FixedVec.{FixedVec}
use Rattle.plain_lists.specs.Lists.{items_of, entries_of, Sized}
use Rattle.plain_state.specs.declared.Cpu.{Cpu}
use Rattle.plain_state.specs.declared.State.{State}

abbrev pub Names : Type 0
Names = FixedVec ℕ 64

abbrev pub list_of : Names → List ℕ
list_of l = items_of l

abbrev pub timer_of : Entry → Timer
timer_of e = record { wake = e.key.vd; context_ref = e.key.ctxt_id }

-- no other timer of t's context
abbrev pub stands_beside : Timer → Entry → Bool
stands_beside t e = not (superseded t (timer_of e))

abbrev pub cpu_in : Cpu → model.Cpu
cpu_in p =
    record {
      block = p.block;
      queue = entries_of p.queue;
      timers = map timer_of (entries_of p.timers);
      local_wakeup_list = list_of p.local;
      ipi_context_wakeup_list = list_of p.ipi;
      remainder = p.remainder;
    }

-- of n contexts
abbrev pub state_in : ℕ → State → model_state.State
state_in n s = record { contexts = take n s.contexts; cpu = cpu_in s.cpu; no_room = s.no_room }

abbrev pub NamesSized : Names → Type 0
NamesSized l = Sized l

-- the arrays of a CPU have 64 places; timers go by wake, then by context
pub record CpuSound (p : Cpu) : Type 0 where
  pub queue : Sized p.queue
  pub timers : Sized p.timers
  pub local : NamesSized p.local
  pub ipi : NamesSized p.ipi
  pub flat : All (λ (e : Entry). e.key.rem_slice ≡ 0) (entries_of p.timers)

-- so do those of a state
pub record Sound (n : ℕ) (s : State) : Type 0 where
  pub few : n ≤ 64
  pub contexts : length s.contexts ≡ 64
  pub queue : Sized s.cpu.queue
  pub timers : Sized s.cpu.timers
  pub local : NamesSized s.cpu.local
  pub ipi : NamesSized s.cpu.ipi
  pub flat : All (λ (e : Entry). e.key.rem_slice ≡ 0) (entries_of s.cpu.timers)

-- r stands for S
pub record Became (n : ℕ) (r : State) (S : model_state.State) : Type 0 where
  pub sound : Sound n r
  pub is : state_in n r ≡ S

-- the same where there was room; whether there was, in any case
pub record Tracks (n : ℕ) (r : State) (S : model_state.State) : Type 0 where
  pub sound : Sound n r
  pub room : r.no_room ≡ S.no_room
  pub is : S.no_room ≡ false → state_in n r ≡ S

-- another queue, its length published, and whether it found no room
abbrev pub queue_put : List Entry → ℕ → Bool → model_state.State → model_state.State
queue_put q l full s =
    record { contexts = s.contexts; cpu = cpu_queue_len l (cpu_queue q s.cpu); no_room = s.no_room || full }

-- other timers
abbrev pub timers_put : List Timer → Bool → model_state.State → model_state.State
timers_put l full s = record { contexts = s.contexts; cpu = cpu_timers l s.cpu; no_room = s.no_room || full }
