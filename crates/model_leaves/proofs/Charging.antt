-- Times and the holder's charge keep a machine well-formed. Assumes nothing.
use mathlib.Core.Path.{◌≡◌, refl, ap}
use mathlib.Core.List.{List}
use Prim.Native.Nat.{ℕ, ◌≤◌}
use native.Mathlib.Omega.{arith}
use Rattle.context.specs.declared.Context.{Context}
use Rattle.ticks.specs.declared.Spent.{Spent}
use Rattle.ticks.proofs.Laws.{remainder_low}
use Rattle.context.specs.Status.{is_runnable}
use Rattle.charging.specs.Charge.{charged, stopped}
use Rattle.charging.proofs.Bounds.{charged_frame, charged_slice}
use Rattle.machine.specs.Machine.{context_at}
use Rattle.model.specs.State.{State, on_cpu, holder, is_idle}
use Rattle.model.specs.Turn.{count_switch, elapsed, times, inactive, holder_stopped, charge_holder, before_selection}
use Rattle.model.proofs.Cases.{pick}
use Rattle.model_leaves.proofs.WellFormed.{fixed, changing, FixedFormed, ChangingFormed, LiveName}
use Rattle.model_leaves.proofs.Kept.{KeptState, put_kept, live_formed, newest_kept, scalars_kept}
use Rattle.model_leaves.proofs.Waking.{wakeups_kept}
use Rattle.numbers.specs.Limits.{max_number}

charged_fixed : (v : ℕ) (e : Spent) (q : Context) → fixed (charged v e q) ≡ fixed q
charged_fixed v e q = ap fixed (charged_frame v e q)

charged_formed : {c : ℕ} (v : ℕ) (e : Spent) (q : Context) → ChangingFormed c (changing q) → ChangingFormed c (changing (charged v e q))
charged_formed v e q o =
    rw (charged_frame v e q)
    (record {
      cpu_id = o.cpu_id;
      schedule_time = o.schedule_time;
      switch_time = o.switch_time;
      wake = o.wake;
      no_wake = o.no_wake;
      rem_slice = (charged_slice v e q o.rem_slice).1;
      key_rem_slice = o.key_rem_slice;
      no_key = o.no_key;
    })

stopped_formed : {c : ℕ} (q : Context) → ChangingFormed c (changing q) → ChangingFormed c (changing (stopped q))
stopped_formed q o =
    record {
      cpu_id = o.cpu_id;
      schedule_time = o.schedule_time;
      switch_time = o.switch_time;
      wake = o.wake;
      no_wake = o.no_wake;
      rem_slice = omega arith;
      key_rem_slice = o.key_rem_slice;
      no_key = o.no_key;
    }

module _ (c n : ℕ) (cs₀ : List Context) where
  abbrev Good : State → Type 0
  Good s = KeptState c n cs₀ s

  pub times_kept : (time : ℕ) (s : State) → time ≤ max_number → Good s → Good (on_cpu (times time) s)
  unfolding times
  times_kept time s h o =
      let k = o.cpu.scalars in
      scalars_kept c n cs₀ s o (times time) refl
      (record { present = k.present; current = k.current; sched = k.sched; idle = k.idle; schedule_time = h; steal_counter = k.steal_counter; remainder = remainder_low (elapsed time s.cpu) s.cpu.remainder })

  module _ (s : State) (o : Good s) where
    abbrev x : ℕ
    x = s.cpu.block.sched_ctxt

    inactive_kept : Good (inactive s)
    inactive_kept = put_kept c n cs₀ s o x (stopped (holder s)) o.cpu.scalars.sched refl (stopped_formed (holder s))

    stopped_kept : Good (holder_stopped s)
    unfolding holder_stopped
    stopped_kept =
        pick Good (holder s).has_wake
        (λ e. newest_kept c n cs₀ (inactive s) inactive_kept (record { wake = (holder s).wake; context_ref = x })
        (record { name = o.cpu.scalars.sched.below; wake = (live_formed c n cs₀ s o x o.cpu.scalars.sched).wake }))
        (λ e. inactive_kept)

    pub charge_kept : (e : Spent) → Good (charge_holder e s)
    unfolding charge_holder
    charge_kept e =
        let v : ℕ = s.cpu.block.v in
        pick Good (is_idle s) (λ z. o)
        (λ z. pick Good (is_runnable (holder s).status) (λ y. put_kept c n cs₀ s o x (charged v e (holder s)) o.cpu.scalars.sched (charged_fixed v e (holder s)) (charged_formed v e (holder s)))
        (λ y. stopped_kept))

  pub before_selection_kept : (time : ℕ) (s : State) → ((x : ℕ) → LiveName n cs₀ x → FixedFormed (fixed (context_at cs₀ x))) → time ≤ max_number → Good s → Good (before_selection time s)
  unfolding before_selection
  before_selection_kept time s live h o = times_kept time _ h (wakeups_kept c n cs₀ live time (on_cpu count_switch s) o)
