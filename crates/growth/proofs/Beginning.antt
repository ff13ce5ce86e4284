-- What a decision adds to what grows up to the stealing. Assumes nothing.
use Rattle.std.specs.Prelude.{None, Option, Some}
use mathlib.Core.Path.{◌≡◌, refl}
use Prim.Native.Nat.{ℕ, ◌+◌, ◌<◌, ◌≤◌}
use native.Mathlib.Omega.{arith}
use Rattle.percpu.specs.With.{cpu_v}
use Rattle.machine.specs.Shape.{CpuFits}
use Rattle.model.specs.State.{State, at, on_cpu}
use Rattle.model.specs.Turn.{count_switch, before_selection}
use Rattle.model.specs.Wakeup.{serve_wakeups}
use Rattle.model.specs.Scan.{Scan}
use Rattle.model.specs.Choice.{Choice, cleaned_up, choice, taken_out, chosen}
use Rattle.model.specs.Schedule.{scanned}
use Rattle.model.proofs.Cases.{pick}
use Rattle.stages.specs.Bounds.{slice_bound}
use Rattle.turn.proofs.Bounded.{count_below}
use Rattle.wakeup.proofs.Bounded.{serve_wakeups_below}
use Rattle.select.proofs.Bounded.{below_chosen}
use Rattle.growth.proofs.Low.{Low, times_low}
use Rattle.growth.proofs.Watched.{served_publishes}

count_low : {n t b : ℕ} (s : State) → Low n t b s → Low n (t + 1) b (on_cpu count_switch s)
count_low s l = record { below = count_below s l.below; published = l.published }

-- the lists and names of a CPU, with other counters
counted_fits : {n : ℕ} (s : State) → CpuFits n s.cpu → CpuFits n (on_cpu count_switch s).cpu
counted_fits s o =
    record {
      current = o.current;
      sched = o.sched;
      idle = o.idle;
      queue = o.queue;
      timers = o.timers;
      local = o.local;
      ipi = o.ipi;
      entry = o.entry;
      timer = o.timer;
      local_name = o.local_name;
      ipi_name = o.ipi_name;
      keys_rise = o.keys_rise;
      timers_rise = o.timers_rise;
      remainder = o.remainder;
    }

served_low : {n t b : ℕ} (time : ℕ) (s : State) → CpuFits n s.cpu → Low n t b s → Low n t (b + slice_bound) (serve_wakeups time s)
served_low {n} {t} {b} time s f l =
    let o = serve_wakeups_below time s f l.below in
    record { below = o; published = omega (arith, served_publishes b time s (omega (arith, l.published)), o.cpu.total_weight) }

-- a decision is counted, wake-ups are served, times are kept
pub before_low : {n t b : ℕ} (time : ℕ) (s : State) → CpuFits n s.cpu → Low n t b s → Low n (t + 1 + time) (b + slice_bound) (before_selection time s)
unfolding before_selection
before_low time s f l = times_low time _ (served_low time (on_cpu count_switch s) (counted_fits s f) (count_low s l))

-- the scan, the clean-up and the choice
taken_published : (w : Option ℕ) (s : State) → (taken_out w s).cpu.block.published_weight ≡ s.cpu.block.published_weight
taken_published None s = refl
taken_published (Some x) s =
    pick (λ (u : State). u.cpu.block.published_weight ≡ s.cpu.block.published_weight) (at s x).has_queue_key (λ e. refl) (λ e. refl)

chosen_published : {n t b : ℕ} (w : Choice) (f : Scan) (s : State) → Low n t b s → (chosen w f s).cpu.block.published_weight ≤ b
unfolding chosen cleaned_up
chosen_published w f s l =
    let u : State = on_cpu (cpu_v w.v) (cleaned_up f s) in
    omega (arith, taken_published w.winner u, l.below.cpu.total_weight)

pub chosen_low : {n t b : ℕ} (k time : ℕ) (s : State) → s.cpu.block.sched_ctxt < n → Low n t b s → Low n t b (chosen (choice s (scanned k time s)) (scanned k time s) s)
chosen_low {n} {t} {b} k time s f l =
    record { below = below_chosen n t b k time s f l.below; published = chosen_published (choice s (scanned k time s)) (scanned k time s) s l }
