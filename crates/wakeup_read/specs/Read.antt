-- What is read into the scratch. Assumes nothing.
use Rattle.std.specs.Prelude.{◌≡◌, List, map, ℕ, ◌<◌, take, get_or, if◌then◌else◌}
use Rattle.columns.specs.Columns.{remove_at}
use Rattle.columns.specs.Common.{keep}
use Rattle.context.specs.declared.Context.{Context}
use Rattle.entries.specs.declared.Timer.{Timer}
use Rattle.percpu.specs.With.{cpu_timers}
use Rattle.percpu.specs.Layout.{no_timer}
use Rattle.machine.specs.Machine.{Machine, context_at, cpu_at}
use Rattle.machine.specs.Encode.{encode}
use Rattle.machine.specs.Shape.{Fits}
use Rattle.model.specs.State.{State, on_cpu}
use Rattle.model.specs.Wakeup as definition
use Rattle.wakeup_judge.specs.declared.Wakeup.{Wakeup}
use Rattle.wakeup_judge.specs.Judge.{wakeup_of, live_at}

-- 64 timers and 64 names
abbrev pub max_wakeups : ℕ
max_wakeups = 128

-- the first n wake-ups of a scratch
abbrev pub wakeups_in : List Wakeup → ℕ → List definition.Wakeup
wakeups_in d n = map wakeup_of (take n d)

-- the wake-ups of the timers that are live, where the holder is `sched`
unfoldable pub live_wakeups : ℕ → List Context → List Timer → List definition.Wakeup
live_wakeups sched cs l = map definition.timer_wakeup (keep (λ (t : Timer). live_at sched t (context_at cs t.context_ref)) l)

-- timer i taken out, unless its context cannot be read
unfoldable pub timer_taken : ℕ → State → State
timer_taken i s =
    if definition.is_unreadable s (get_or s.cpu.timers i no_timer).context_ref then s else
    on_cpu (λ p. cpu_timers (remove_at i p.timers) p) s

-- the due timers taken out so
abbrev pub timers_drained : ℕ → State → State
timers_drained time s = on_cpu (λ p. cpu_timers (keep (definition.stays time s) p.timers) p) s

-- r is timer i of CPU k, and r is name i of its local list
pub record TimerRead (c n k i : ℕ) (m : List ℕ) (r : Timer) : Type 0 where
  pub is : (M : Machine) → m ≡ encode M → Fits c n M → r ≡ get_or (cpu_at M k).timers i no_timer
  pub name : r.context_ref < n

pub record NameRead (c n k i : ℕ) (m : List ℕ) (r : ℕ) : Type 0 where
  pub is : (M : Machine) → m ≡ encode M → Fits c n M → r ≡ get_or (cpu_at M k).local_wakeup_list i 0
  pub name : r < n
