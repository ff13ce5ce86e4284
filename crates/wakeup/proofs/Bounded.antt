-- What the wake-up stage adds: virtual times and the total weight grow by at most 2^30, and no time changes. Assumes nothing.
use mathlib.Core.Bool.{false}
use mathlib.Core.List.{List, [], ◌∷◌}
use Prim.Native.Nat.{ℕ, ◌<◌, ◌+◌, ◌*◌, ◌≤◌}
use native.Mathlib.Omega.{arith}
use lib.ListN.{length}
use Rattle.columns.specs.Common.{fold, keep, All}
use Rattle.weights.specs.Weights.{max_weight, max_whole_slice}
use Rattle.entries.specs.declared.Timer.{Timer}
use Rattle.percpu.specs.Layout.{no_timer}
use Rattle.machine.specs.Shape.{CpuFits}
use Rattle.model.specs.State.{State, state_of}
use Rattle.model.specs.Wakeup.{Wakeup, serve_wakeup, stays, drained, wakeups, serve_wakeups}
use Rattle.stages.specs.Stage.{Staged, Ranged, StateBelow}
use Rattle.stages.proofs.Fitting.{of_all}
use Rattle.columns.proofs.Keep.{all_keep}
use Rattle.wakeup.specs.Paced.{Slow, Named}
use Rattle.wakeup.proofs.Pacing.{slow_serve}
use Rattle.wakeup.proofs.Listed.{WakeBelow, wakeups_named, wakeups_below, wakeups_few}
use Rattle.stages.proofs.Kept.{state_more, ranged_stage}
use Rattle.wakeup.proofs.BoundedOnce.{wakes_of, serve_below}
use Rattle.wakeup_read.specs.Read.{max_wakeups}
use Rattle.stages.specs.Bounds.{slice_bound}

-- all of them
served_below : {n t b u : ℕ} (w : ℕ) (l : List Wakeup) (s : State) → Named n l → All (λ (k : Wakeup). WakeBelow t k.wake) l → w + max_weight * length l ≤ u → b + max_whole_slice ≤ u
    → Slow n b w s → StateBelow n t u s → StateBelow n t u (fold serve_wakeup s l)
served_below w [] s a d h g o f = f
served_below w (k ∷ ks) s a d h g o f =
    served_below (w + max_weight) ks (serve_wakeup s k) a.1 d.1 (omega arith) g (slow_serve s k o a.0) (serve_below s o f (omega arith) g k a.0 d.0)

drained_below : {n t b : ℕ} (time : ℕ) (s : State) → StateBelow n t b s → StateBelow n t b (drained time s)
drained_below {t = t} time s f =
    record {
      context = f.context;
      cpu = record {
        schedule_time = f.cpu.schedule_time;
        pit_ticks = f.cpu.pit_ticks;
        user = f.cpu.user;
        kernel = f.cpu.kernel;
        idle = f.cpu.idle;
        context_switches = f.cpu.context_switches;
        syscall_switches = f.cpu.syscall_switches;
        v = f.cpu.v;
        total_weight = f.cpu.total_weight;
        entry_vtime = f.cpu.entry_vtime;
        entry_vd = f.cpu.entry_vd;
        timer_wake = of_all (λ (x : Timer). x.wake ≤ t) no_timer (keep (stays time s) s.cpu.timers)
            (all_keep (stays time s) (λ (x : Timer). x.wake ≤ t) s.cpu.timers (wakes_of s.cpu f.cpu));
      };
    }

slow_of : {n t b : ℕ} (s : State) → StateBelow n t b s → Slow n b b s
slow_of s f = record { vtime = λ x h. (f.context x h).vtime; v = f.cpu.v; total_weight = f.cpu.total_weight }

-- the whole stage, where names and lists are in their ranges
pub serve_wakeups_below : {n t b : ℕ} (time : ℕ) (s : State) → CpuFits n s.cpu → StateBelow n t b s → StateBelow n t (b + slice_bound) (serve_wakeups time s)
unfolding serve_wakeups
serve_wakeups_below {n} {t} {b} time s c f =
    let d : StateBelow n t b (drained time s) = drained_below time s f
    in let l : length (wakeups time s) ≤ max_wakeups = wakeups_few time s c.timers c.local
    in served_below b (wakeups time s) (drained time s) (wakeups_named time s c) (wakeups_below time s f.cpu.timer_wake) (omega arith) (omega arith)
    (slow_of (drained time s) d) (state_more (omega arith) (omega arith) d)

-- the image that `serve_wakeups` leaves
pub serve_wakeups_ranged : {c n k t b : ℕ} {m m' : List ℕ} (time : ℕ) → k < c → Staged c n k m m' false (λ (s : State). serve_wakeups time s) → Ranged c n t b m → Ranged c n t (b + slice_bound) m'
serve_wakeups_ranged {k = k} time h u r = ranged_stage (omega arith) (omega arith) h u (λ M o. serve_wakeups_below time (state_of k M) (o.cpu k h)) r
