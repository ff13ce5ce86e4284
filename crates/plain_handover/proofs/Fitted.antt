-- What the end of a decision leaves in its ranges, and what it adds to what grows. Assumes nothing.
use Rattle.std.specs.Prelude.{if◌then◌else◌, None, Option, Some, is_some}
use mathlib.Core.Path.{◌≡◌, refl, subst}
use mathlib.Core.Bool.{Bool, not, ◌&&◌, ◌||◌}
use Prim.Native.Nat.{ℕ, ◌+◌, ◌/◌, ◌<◌, ◌≤◌}
use lib.Dec.{eqb}
use Rattle.columns.specs.Common.{is_empty}
use Rattle.columns.proofs.Tests.{by_test}
use Rattle.context.specs.declared.Context.{Context}
use Rattle.context.specs.Key.{queue_key, with_new_key, entry_of}
use Rattle.weights.specs.Weights.{weight}
use Rattle.numbers.specs.Limits.{max_number}
use Rattle.percpu.specs.With.{block_v, block_stealable, block_sched_ctxt}
use Rattle.machine.specs.Shape.{ContextFits, CpuFits}
use Rattle.model.specs.State.{State, at, put_context, on_cpu, holder}
use Rattle.model.specs.Steal.{mark_stealable}
use Rattle.model.specs.Handover.{advance, hand_over, next_context}
use Rattle.model.proofs.Cases.{pick}
use Rattle.stages.specs.Stage.{StateBelow}
use Rattle.stages.specs.Bounds.{t_counted, max_gain}
use Rattle.handover.specs.Handed.{given_up, taken}
use Rattle.handover.proofs.Bounded.{hand_over_below}
use Rattle.handover.proofs.Handed.{given_fits, taken_fits}
use Rattle.handover.proofs.Requeued.{entry_fits, keyed_fits}
use Rattle.handover.proofs.Settled as handover
use Rattle.plain_model.specs.State.{remove_key, placed, placed_cpu}
use Rattle.plain_model.specs.Handover.{requeue, settled}
use Rattle.plain_model.proofs.Settled.{settled_placed, handed_is}
use Rattle.plain_state.specs.Fits.{StateFits}
use Rattle.plain_state.proofs.Fitting.{block_changed, context_put, entry_inserted, key_removed}
use Rattle.plain_handover.specs.Settled.{stealing_of}

module _ {n : ℕ} (s : State) (f : StateFits n s) where
  abbrev x : ℕ
  x = s.cpu.block.sched_ctxt

  held : ContextFits 4 (holder s)
  held = f.context x f.cpu.sched

  advance_fits : (runs : Bool) (w : Option ℕ) (ticks : ℕ) → StateFits n (advance runs w ticks s)
  unfolding advance
  advance_fits runs w ticks =
      pick (StateFits n) ((is_some w || runs) && not (eqb s.cpu.block.total_weight 0))
      (λ e. block_changed s f (block_v (s.cpu.block.v + ticks / s.cpu.block.total_weight) s.cpu.block) (record { current = f.cpu.current; sched = f.cpu.sched; idle = f.cpu.idle }))
      (λ e. f)

  stealable_fits : StateFits n (on_cpu mark_stealable s)
  stealable_fits = block_changed s f (block_stealable (not (is_empty s.cpu.queue)) s.cpu.block) (record { current = f.cpu.current; sched = f.cpu.sched; idle = f.cpu.idle })

  requeue_fits : StateFits n (requeue s)
  unfolding requeue
  requeue_fits =
      let c : Context = holder s in
      let u : State = if c.has_queue_key then remove_key (queue_key c) s else s in
      let g : StateFits n u = pick (StateFits n) c.has_queue_key (λ e. key_removed s f (queue_key c)) (λ e. f) in
      entry_inserted (put_context x (with_new_key c) u) (context_put u g x (with_new_key c) (keyed_fits c refl held)) (entry_of x (weight c.prio) c)
      (entry_fits c x refl f.cpu.sched held)

  pub hand_over_fits : (time : ℕ) (was_idle : Bool) (y : ℕ) → y < n → StateFits n (hand_over time was_idle y s)
  unfolding hand_over
  hand_over_fits time was_idle y h =
      let u : State = put_context x (given_up time was_idle (holder s)) s in
      let g : StateFits n u = context_put s f x (given_up time was_idle (holder s)) (given_fits (holder s) time was_idle refl held) in
      block_changed (put_context y (taken time (at u y)) u) (context_put u g y (taken time (at u y)) (taken_fits (at u y) time refl (g.context y h)))
      (block_sched_ctxt y s.cpu.block) (record { current = f.cpu.current; sched = h; idle = f.cpu.idle })

  -- who gets the slice is one of the n contexts
  pub next_below : (runs : Bool) (w : Option ℕ) → ((y : ℕ) → w ≡ Some y → y < n) → (y : ℕ) → next_context runs w s ≡ Some y → y < n
  unfolding next_context
  next_below runs (Some z) g y e = g y e
  next_below runs None g y e =
      by_test (runs || eqb x s.cpu.block.idle_ctxt) (λ t. g y (rw t at e)) (λ t. subst (λ (j : ℕ). j < n) (same (rw t at e)) f.cpu.idle)
    where
      same : ◌≡◌ {A = Option ℕ} (Some s.cpu.block.idle_ctxt) (Some y) → s.cpu.block.idle_ctxt ≡ y
      same z = cc

pub settled_fits : {n : ℕ} (s : State) → StateFits n s → (runs : Bool) (w : Option ℕ) (ticks : ℕ) → StateFits n (settled runs ticks (stealing_of s w))
unfolding settled
settled_fits {n} s f runs w ticks =
    let u : State = advance runs w ticks s in
    let g : StateFits n u = advance_fits s f runs w ticks in
    stealable_fits (if is_some w && runs then requeue u else u) (pick (StateFits n) (is_some w && runs) (λ e. requeue_fits u g) (λ e. g))

-- what grows
module _ {n t b : ℕ} (s : State) (f : StateFits n s) (c : CpuFits n (placed_cpu s.cpu)) (o : StateBelow n t b (placed s)) where
  pub settled_below : (runs : Bool) (w : Option ℕ) (ticks : ℕ) → ticks ≤ max_gain → StateBelow n t (b + max_gain) (placed (settled runs ticks (stealing_of s w)))
  settled_below runs w ticks h =
      rw ((settled_placed runs ticks {l = stealing_of s w} {L = stealing_of (placed s) w} (record { is = refl; here = f.cpu.differ; all = tt })).is, ← handover.settled_is 0 0 runs ticks (stealing_of (placed s) w))
      (handover.settled_below (is_some w) runs ticks (placed s) h c o)

  pub handed_below : (time : ℕ) (was_idle : Bool) (x : ℕ) → time ≤ max_number → x < n → StateBelow n (t + t_counted) b (placed (hand_over time was_idle x s))
  handed_below time was_idle x h i = rw (handed_is time was_idle x s) (hand_over_below (placed s) c o time was_idle h x i)
