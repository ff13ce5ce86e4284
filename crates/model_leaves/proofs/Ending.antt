-- The end of a decision keeps a machine well-formed: V advances, the holder goes back, the slice changes hands, the CPU switches. Assumes nothing.
use Rattle.std.specs.Prelude.{if◌then◌else◌, None, Option, Some, is_some}
use mathlib.Core.Path.{◌≡◌, refl, sym, ap, ◌∙◌}
use mathlib.Core.Bool.{Bool, true, false, not, ◌&&◌, ◌||◌}
use mathlib.Core.List.{List}
use Prim.Native.Nat.{ℕ, ◌+◌, ◌-◌, ◌<◌, ◌≤◌}
use native.Mathlib.Omega.{arith}
use lib.Dec.{eqb}
use Rattle.context.specs.declared.Context.{Context}
use Rattle.context.specs.Status.{is_runnable}
use Rattle.context.specs.With.{with_currently_scheduled, with_schedule_time, with_sched_cpu_time}
use Rattle.weights.specs.Weights.{weight}
use Rattle.runnable.specs.declared.UpdateResult.{UpdateResult}
use Rattle.runnable.specs.Runnable.{update_runnable}
use Rattle.percpu.specs.With.{cpu_sched_ctxt}
use Rattle.machine.specs.Machine.{context_at}
use Rattle.model.specs.State.{State, at, put_context, on_cpu, insert_entry, remove_key, holder, is_idle}
use Rattle.model.specs.Steal.{Stealing, mark_stealable}
use Rattle.model.specs.SwitchTo.{saved, left, comes, becomes_current, switch_to, direct_switch_by, try_direct_switch_back}
use Rattle.model.proofs.Cases.{pick}
use Rattle.model_leaves.proofs.WellFormed.{fixed, changing, FixedFormed, ChangingFormed, LiveName}
use Rattle.model_leaves.proofs.Kept.{KeptState, put_kept, live_formed, same_fixed, insert_kept, name_kept, key_kept, scalars_kept}
use Rattle.model_leaves.proofs.Waking.{own_formed}
use Rattle.model_leaves.proofs.Choosing.{WinnerFormed}
use Rattle.model_leaves.proofs.Scanning.{update_cases}
use Rattle.model_leaves.proofs.Stealing.{keyed_formed}
use Rattle.numbers.specs.Limits.{max_number}
use Rattle.model.specs.Handover.{advance, requeue, next_context, hand_over, settled}
use Rattle.context.specs.Key.{queue_key, with_new_key, entry_of}

taken_formed : {c time : ℕ} (q : Context) → time ≤ max_number → ChangingFormed c (changing q) → ChangingFormed c (changing (with_currently_scheduled true (with_schedule_time time q)))
taken_formed q h o =
    record {
      cpu_id = o.cpu_id;
      schedule_time = h;
      switch_time = o.switch_time;
      wake = o.wake;
      no_wake = o.no_wake;
      rem_slice = o.rem_slice;
      key_rem_slice = o.key_rem_slice;
      no_key = o.no_key;
    }

comes_formed : {c : ℕ} (k time : ℕ) (q : Context) → k < c → time ≤ max_number → ChangingFormed c (changing q) → ChangingFormed c (changing (comes k time q))
comes_formed k time q l h o =
    record {
      cpu_id = omega arith;
      schedule_time = o.schedule_time;
      switch_time = h;
      wake = o.wake;
      no_wake = o.no_wake;
      rem_slice = o.rem_slice;
      key_rem_slice = o.key_rem_slice;
      no_key = o.no_key;
    }

module _ (c n : ℕ) (cs₀ : List Context) where
  abbrev Good : State → Type 0
  Good s = KeptState c n cs₀ s

  module _ (live : (x : ℕ) → LiveName n cs₀ x → FixedFormed (fixed (context_at cs₀ x))) where
    -- the holder's record gets its key, and an entry goes in
    queued : (s u : State) → Good u → at u s.cpu.block.sched_ctxt ≡ holder s → LiveName n cs₀ s.cpu.block.sched_ctxt
        → Good (insert_entry (entry_of s.cpu.block.sched_ctxt (weight (holder s).prio) (holder s)) (put_context s.cpu.block.sched_ctxt (with_new_key (holder s)) u))
    queued s u o e a =
        let x : ℕ = s.cpu.block.sched_ctxt in
        let f : fixed (holder s) ≡ fixed (at u x) = ap fixed (sym e) in
        let h : ChangingFormed c (changing (holder s)) = rw e at (live_formed c n cs₀ u o x a) in
        insert_kept c n cs₀ (put_context x (with_new_key (holder s)) u)
        (put_kept c n cs₀ u o x (with_new_key (holder s)) a f (λ z. keyed_formed (holder s) h)) (entry_of x (weight (holder s).prio) (holder s))
        (own_formed c n cs₀ live x (holder s) (holder s) a (f ∙ same_fixed c n cs₀ u o x a.below) refl h.rem_slice)

    requeue_kept : (s : State) → Good s → Good (requeue s)
    unfolding requeue
    requeue_kept s o =
        let x : ℕ = s.cpu.block.sched_ctxt in
        pick (λ (u : State). Good (insert_entry (entry_of x (weight (holder s).prio) (holder s)) (put_context x (with_new_key (holder s)) u))) (holder s).has_queue_key
        (λ z. queued s (remove_key (queue_key (holder s)) s) (key_kept c n cs₀ s o (queue_key (holder s))) refl o.cpu.scalars.sched)
        (λ z. queued s s o refl o.cpu.scalars.sched)

    advance_kept : (runs : Bool) (w : Option ℕ) (t : ℕ) (s : State) → Good s → Good (advance runs w t s)
    unfolding advance
    advance_kept runs w t s o = pick Good ((is_some w || runs) && not (eqb s.cpu.block.total_weight 0)) (λ z. o) (λ z. o)

    pub settled_kept : (k time : ℕ) (runs : Bool) (t : ℕ) (l : Stealing) → Good l.state → Good (settled runs t l)
    unfolding settled
    settled_kept k time runs t l o =
        let u : Good (advance runs l.winner t l.state) = advance_kept runs l.winner t l.state o in
        let s : State = if is_some l.winner && runs then requeue (advance runs l.winner t l.state) else advance runs l.winner t l.state in
        marked s (pick Good (is_some l.winner && runs) (λ z. requeue_kept (advance runs l.winner t l.state) u) (λ z. u))
      where
        marked : (s : State) → Good s → Good (on_cpu mark_stealable s)
        marked s u = u

  pub next_formed : (runs : Bool) (w : Option ℕ) (s : State) → WinnerFormed c n cs₀ w → Good s → WinnerFormed c n cs₀ (next_context runs w s)
  unfolding next_context
  next_formed runs (Some x) s a o = a
  next_formed runs None s a o = pick (WinnerFormed c n cs₀) (runs || is_idle s) (λ z. tt) (λ z. o.cpu.scalars.idle)

  module _ (time : ℕ) (soon : time ≤ max_number) where
    pub hand_over_kept : (was : Bool) (x : ℕ) (s : State) → LiveName n cs₀ x → Good s → Good (hand_over time was x s)
    unfolding hand_over
    hand_over_kept was x s a o =
        let y : ℕ = s.cpu.block.sched_ctxt in
        let q : Context = holder s in
        let r : Context = with_currently_scheduled false (with_sched_cpu_time (if was then q.sched_cpu_time else q.sched_cpu_time + (time - q.schedule_time)) q) in
        let u : State = put_context y r s in
        let g : Good u = put_kept c n cs₀ s o y r o.cpu.scalars.sched refl (λ z. z) in
        let d : Context = with_currently_scheduled true (with_schedule_time time (at u x)) in
        let h : Good (put_context x d u) = put_kept c n cs₀ u g x d a refl (taken_formed (at u x) soon) in
        let k = o.cpu.scalars in
        scalars_kept c n cs₀ (put_context x d u) h (cpu_sched_ctxt x) refl
        (record { present = k.present; current = k.current; sched = a; idle = k.idle; schedule_time = k.schedule_time; steal_counter = k.steal_counter; remainder = k.remainder })

    module _ (k : ℕ) (here : k < c) where
      -- after the context that is left may have gone on the local list
      come_kept : (x : ℕ) (s : State) → LiveName n cs₀ x → Good s
          → Good (on_cpu (becomes_current k time x (comes k time (at (put_context s.cpu.block.current_ctxt (left k time s.cpu (at s s.cpu.block.current_ctxt)) s) x)))
          (put_context x (comes k time (at (put_context s.cpu.block.current_ctxt (left k time s.cpu (at s s.cpu.block.current_ctxt)) s) x))
          (put_context s.cpu.block.current_ctxt (left k time s.cpu (at s s.cpu.block.current_ctxt)) s)))
      come_kept x s a o =
          let y : ℕ = s.cpu.block.current_ctxt in
          let u : State = put_context y (left k time s.cpu (at s y)) s in
          let g : Good u = put_kept c n cs₀ s o y (left k time s.cpu (at s y)) o.cpu.scalars.current refl (λ z. z) in
          let q : Context = comes k time (at u x) in
          let h : Good (put_context x q u) = put_kept c n cs₀ u g x q a refl (comes_formed k time (at u x) here soon) in
          let i = o.cpu.scalars in
          scalars_kept c n cs₀ (put_context x q u) h (becomes_current k time x q) refl
          (record { present = i.present; current = a; sched = i.sched; idle = i.idle; schedule_time = i.schedule_time; steal_counter = i.steal_counter; remainder = i.remainder })

      pub switch_to_kept : (x : ℕ) (s : State) → LiveName n cs₀ x → Good s → Good (switch_to k time x s)
      unfolding switch_to
      switch_to_kept x s a o =
          let y : ℕ = s.cpu.block.current_ctxt in
          come_kept x (saved k time s) a
          (pick Good (not (eqb s.cpu.block.sched_ctxt y) && not (at s y).has_queue_key && is_runnable (at s y).status)
          (λ z. name_kept c n cs₀ s o y o.cpu.scalars.current.below) (λ z. o))

      abbrev pub MaybeGood : Option State → Type 0
      MaybeGood None = Unit {0}
      MaybeGood (Some s) = Good s

      pub directly_kept : (own current : Bool) (x : ℕ) (s : State) → LiveName n cs₀ x → Good s
          → MaybeGood (direct_switch_by k time x s (update_runnable k time own current (at s x)))
      unfolding direct_switch_by
      directly_kept own current x s a o =
          update_cases c k time own current (at s x) (λ (r : UpdateResult). MaybeGood (direct_switch_by k time x s r)) tt tt
          (λ d u. switch_to_kept x (put_context x d s) a (put_kept c n cs₀ s o x d a u.same u.formed))

      pub back_kept : (s : State) → Good s → MaybeGood (try_direct_switch_back k time s)
      unfolding try_direct_switch_back
      back_kept s o =
          let x : ℕ = s.cpu.block.sched_ctxt in
          pick MaybeGood (eqb s.cpu.block.current_ctxt x) (λ z. tt) (λ z. directly_kept true false x s o.cpu.scalars.sched o)
