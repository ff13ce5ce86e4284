-- A wake-up by value, the steps of the two lists, and what they ask of a state. Assumes nothing.
use Rattle.std.specs.Prelude.{◌≡◌, Bool, false, Option, ◌&&◌, ℕ, ◌+◌, ◌*◌, if◌then◌else◌}
use Rattle.numbers.specs.Limits.{max_number}
use Rattle.weights.specs.Weights.{weight, max_weight}
use Rattle.context.specs.declared.Context.{Context}
use Rattle.context.specs.Key.{entry_of}
use Rattle.entries.specs.declared.Entry.{Entry}
use Rattle.entries.specs.declared.Timer.{Timer}
use Rattle.entries.specs.Order.{is_due}
use Rattle.percpu.specs.Cpu.{Cpu}
use Rattle.percpu.specs.With.{cpu_queue}
use Rattle.model.specs.State.{State, put_context, on_cpu}
use Rattle.model.specs.Wakeup as definition
use Rattle.model.specs.Wakeup.{is_live_timer, timer_wakeup, local_wakeup, may_enter, stays, activated}
use Rattle.plain_model.specs.State.{insert_entry}
use Rattle.plain_model.specs.Wakeup.{without_old_key, enter, serve_wakeup}
use Rattle.wakeup.specs.Paced.{Slow}
use Rattle.plain_state.specs.declared.State as code
use Rattle.plain_state.specs.States.{timer_of, state_in, Tracks}
use Rattle.plain_state.specs.Fits.{StateFits}
use Rattle.plain_wakeup.specs.declared.judge.Wakeup.{Wakeup}

abbrev pub wake_of : Wakeup → Option ℕ
wake_of w = w.wake

abbrev pub wakeup_of : Wakeup → definition.Wakeup
wakeup_of w = record { wake = wake_of w; context_ref = w.context_ref }

-- a timer's entry that stays
abbrev pub entry_stays : ℕ → State → Entry → Bool
entry_stays time s e = stays time s (timer_of e)

-- a context that enters counts in the total weight, and its old key leaves
abbrev pub made_active : Context → State → State
made_active c s = on_cpu (λ (p : Cpu). cpu_queue (without_old_key c p.queue) (activated c p)) s

-- the record e is stored, and its entry put in
abbrev pub joined : ℕ → Context → State → State
joined x e s = insert_entry (entry_of x (weight e.prio) e) (put_context x e s)

-- a context that can be woken, with the record c
abbrev pub woken_as : State → ℕ → Context → State
woken_as s x c = if may_enter s.cpu x c then enter x c s else put_context x c s

-- a timer in its turn, judged in the state before; a name in its turn
abbrev pub timer_step : (before : State) → ℕ → State → Timer → State
timer_step before time s t = if is_due time t && is_live_timer before t then serve_wakeup s (timer_wakeup t) else s

abbrev pub name_step : State → ℕ → State
name_step s x = serve_wakeup s (local_wakeup x)

-- 64 timers at most add a weight each
abbrev pub b_timers : ℕ
b_timers = max_number + max_weight * 64

-- what a wake-up asks of a state; w: of its total weight
pub record Wakeable (n w : ℕ) (s : State) : Type 0 where
  pub fits : StateFits n s
  pub slow : Slow n max_number w s

-- r stands for S, and can go on being woken
pub record Served (n w : ℕ) (r : code.State) (S : State) : Type 0 where
  pub tracks : Tracks n r S
  pub ready : r.no_room ≡ false → Wakeable n w (state_in n r)
