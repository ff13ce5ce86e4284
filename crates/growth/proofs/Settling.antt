-- What the advance of V and the holder's way back add to what grows. Assumes nothing.
use Rattle.std.specs.Prelude.{if◌then◌else◌, Option, is_some}
use mathlib.Core.Path.{◌≡◌, refl}
use mathlib.Core.Bool.{Bool, not, ◌&&◌, ◌||◌}
use Prim.Native.Nat.{ℕ, ◌+◌, ◌<◌, ◌≤◌}
use native.Mathlib.Omega.{arith}
use native.Mathlib.Nat.{div-le_self}
use lib.Dec.{eqb}
use Rattle.model.specs.State.{State, on_cpu}
use Rattle.model.specs.Steal.{Stealing, mark_stealable}
use Rattle.model.specs.Handover.{advance, requeue, settled}
use Rattle.model.proofs.Cases.{pick}
use Rattle.handover.proofs.Bounded.{stealable_below}
use Rattle.growth.proofs.Low.{Low, low_more, requeue_low}

advance_low : {n t b : ℕ} (runs : Bool) (w : Option ℕ) (ticks : ℕ) (s : State) → Low n t b s → Low n t (b + ticks) (advance runs w ticks s)
unfolding advance
advance_low {n} {t} {b} runs w ticks s l =
    let h : t ≤ t = omega arith in
    let g : b ≤ b + ticks = omega arith in
    let m : Low n t (b + ticks) s = low_more h g l in
    let u = m.below.cpu in
    pick (Low n t (b + ticks)) ((is_some w || runs) && not (eqb s.cpu.block.total_weight 0))
    (λ e. record {
      below = record {
        context = m.below.context;
        cpu = record {
          schedule_time = u.schedule_time;
          pit_ticks = u.pit_ticks;
          user = u.user;
          kernel = u.kernel;
          idle = u.idle;
          context_switches = u.context_switches;
          syscall_switches = u.syscall_switches;
          v = omega (arith, l.below.cpu.v, div-le_self ticks s.cpu.block.total_weight);
          total_weight = u.total_weight;
          entry_vtime = u.entry_vtime;
          entry_vd = u.entry_vd;
          timer_wake = u.timer_wake;
        };
      };
      published = m.published;
    })
    (λ e. m)

advance_sched : (runs : Bool) (w : Option ℕ) (ticks : ℕ) (s : State) → (advance runs w ticks s).cpu.block.sched_ctxt ≡ s.cpu.block.sched_ctxt
unfolding advance
advance_sched runs w ticks s =
    pick (λ (u : State). u.cpu.block.sched_ctxt ≡ s.cpu.block.sched_ctxt) ((is_some w || runs) && not (eqb s.cpu.block.total_weight 0)) (λ e. refl) (λ e. refl)

pub settled_low : {n t b : ℕ} (runs : Bool) (ticks : ℕ) (l : Stealing) → l.state.cpu.block.sched_ctxt < n → Low n t b l.state → Low n t (b + ticks) (settled runs ticks l)
unfolding settled
settled_low {n} {t} {b} runs ticks l f o =
    let s : State = advance runs l.winner ticks l.state in
    let a : Low n t (b + ticks) s = advance_low runs l.winner ticks l.state o in
    let i : s.cpu.block.sched_ctxt < n = rw (advance_sched runs l.winner ticks l.state) f in
    marked (if is_some l.winner && runs then requeue s else s) (pick (Low n t (b + ticks)) (is_some l.winner && runs) (λ e. requeue_low s i a) (λ e. a))
  where
    marked : (u : State) → Low n t (b + ticks) u → Low n t (b + ticks) (on_cpu mark_stealable u)
    marked u a = record { below = stealable_below u a.below; published = a.published }
