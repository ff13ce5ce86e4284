-- Accepted decisions, and the wake-ups that they serve. Assumes nothing.
use Rattle.std.specs.Prelude.{◌≡◌, ◌≢◌, Bool, true, false, not, ◌&&◌, ℕ, ◌+◌, ◌≤◌, leb, eqb}
use Rattle.columns.specs.Common.{In}
use Rattle.entries.specs.declared.Entry.{Entry}
use Rattle.entries.specs.declared.Timer.{Timer}
use Rattle.runnable.specs.declared.UpdateResult.{UpdateResult}
use Rattle.runnable.specs.declared.UpdateResult.TheVariants.{CanSwitch, Skip, Blocked}
use Rattle.runnable.specs.Runnable.{update_runnable}
use Rattle.percpu.specs.Cpu.{Cpu}
use Rattle.machine.specs.Machine.{Machine, cpu_at}
use Rattle.model.specs.Schedule.{Outcome, tick, switch, direct_switch_to}
use Rattle.model.specs.Tidy.{Live, Present, Queued, context}
use Rattle.ticks.specs.Ticks.{tick_interval}

-- operations 1 to 3
pub data Call : Type 0 where
  by_tick : Call
  by_switch : Call
  by_direct_switch : ℕ → Call

abbrev pub outcome : Call → (k time : ℕ) → Machine → Outcome
outcome by_tick k time M = tick k time M
outcome by_switch k time M = switch k time M
outcome (by_direct_switch x) k time M = direct_switch_to k time x M

abbrev pub can_switch : UpdateResult → Bool
can_switch (CanSwitch c) = true
can_switch Skip = false
can_switch Blocked = false

-- the call is on CPU k, document 01's 'here'
module _ (k time : ℕ) (M : Machine) where
  abbrev pub here : Cpu
  here = cpu_at M k

  -- the current context gives way to the one in charge, and nothing is decided
  abbrev pub switches_back : Bool
  switches_back =
      not (eqb here.block.current_ctxt here.block.sched_ctxt)
      && can_switch (update_runnable k time true false (context M here.block.sched_ctxt))

  -- the call runs `schedule`: not an undue tick, a direct switch or a direct switch back
  abbrev pub decides : Call → Bool
  decides by_tick = leb tick_interval (here.block.pit_ticks + 1) && not switches_back
  decides by_switch = not switches_back
  decides (by_direct_switch x) =
      not (eqb here.block.current_ctxt x)
      && not (can_switch (update_runnable k time (eqb here.block.sched_ctxt x) false (context M x))) && not switches_back

  -- an accepted decision, whatever locks are held and whatever the time: nothing else of what refusals 5 to 8 rule out is needed
  pub record Accepted (call : Call) : Type 0 where
    pub present : Present M k
    pub decision : decides call ≡ true
    pub room : (outcome call k time M).no_room ≡ false

  -- a wake-up served here: a due timer whose context can be read, or a name taken off the local list (a locked one is put back)
  pub data Served (x : ℕ) : Type 0 where
    by_timer : (t : Timer) → In t here.timers → t.wake ≤ time + 1 → t.context_ref ≡ x → Live M x → (context M x).lock ≢ 2
        → x ≢ here.block.sched_ctxt → Served x
    by_name : In x here.local_wakeup_list → (context M x).lock ≡ 0 → Served x

  -- none of them names a context queued on another CPU
  abbrev pub ServesOwn : Type 0
  ServesOwn = (x : ℕ) → Served x → (e : Entry) (i : ℕ) → Queued M e i → i ≢ k → e.context_ref ≢ x
