-- What an operation of 1 to 3 adds to what grows. Assumes nothing.
use Rattle.std.specs.Prelude.{None, Option, Some}
use mathlib.Core.Path.{◌≡◌, refl}
use mathlib.Core.Logic.{◌⊎◌}
use mathlib.Core.Bool.{Bool, true, false}
use Prim.Native.Nat.{ℕ, ◌+◌, ◌*◌, ◌<◌, ◌≤◌}
use native.Mathlib.Omega.{arith}
use lib.Dec.{ltb, eqb}
use Rattle.ticks.specs.declared.Spent.{Spent}
use Rattle.machine.specs.Machine.{Machine, cpu_at}
use Rattle.machine.specs.Outcome.{Outcome}
use Rattle.machine.specs.Shape.{CpuFits, Fits}
use Rattle.model.specs.State.{State, state_of}
use Rattle.model.specs.Turn.{spent, was_idle, charge_holder, before_selection}
use Rattle.model.specs.Steal.{should_steal}
use Rattle.model.specs.SwitchTo.{try_direct_switch_back}
use Rattle.model.specs.Schedule.{finish, select_next_context, schedule, after_schedule, switch_inner_by, switch_inner, ticked, tick, switch, direct_switch_or, direct_switch_to}
use Rattle.model.specs.Accepted.{Call, by_tick, by_switch, by_direct_switch, outcome}
use Rattle.model.proofs.Cases.{pick}
use Rattle.model_leaves.proofs.WellFormed.{WellFormed}
use Rattle.model_leaves.proofs.Kept.{KeptState}
use Rattle.model_leaves.proofs.Charging.{charge_kept, before_selection_kept}
use Rattle.model_leaves.proofs.Deciding.{TargetFormed, live_fixed}
use Rattle.stages.specs.Bounds.{slice_bound}
use Rattle.numbers.specs.Limits.{max_number}
use Rattle.growth.specs.Growth.{Within}
use Rattle.growth.proofs.Low.{Low, low_more, slice_charge, charge_low}
use Rattle.growth.proofs.Watched.{watched, selection_same, charge_same}
use Rattle.growth.proofs.Beginning.{before_low}
use Rattle.growth.proofs.Fitting.{context_fits}
use Rattle.growth.proofs.Stealing.{others_more, stolen_bound}
use Rattle.growth.proofs.Ending.{MaybeLow, direct_low, back_low}
use Rattle.growth.proofs.Deciding.{bounds, within_more, start_kept, start_low, others, finished, selection}

module _ (c n : ℕ) (M : Machine) (W : WellFormed c n M) (F : Fits c n M) (k time : ℕ) (here : k < c) (is_present : (cpu_at M k).block.present ≡ true) (soon : time ≤ max_number)
    (t b : ℕ) (R : Within c n (bounds t b) M) where
  abbrev Good : State → Type 0
  Good s = KeptState c n M.contexts s

  abbrev Ends : ℕ → ℕ → Outcome → Type 0
  Ends t' b' o = o.no_room ≡ false → Within c n (bounds t' b') o.machine

  -- whether it may be a stealing turn, by the words of the state s that no stage before the stealing changes
  abbrev pub Turn : Bool → State → Type 0
  Turn steals s = steals ≡ false → ((u : State) (w : Option ℕ) → watched u ≡ watched s → should_steal u w ≡ false) ⊎ (c ≡ 1)

  -- a whole turn: g bounds its ticks
  module _ (g : ℕ) (steals : Bool) where
    abbrev T : ℕ
    T = t + 3 * time + 2

    abbrev B : ℕ
    B = stolen_bound steals (b + slice_bound + g + slice_charge) + g

    bound_more : (x : ℕ) (y : Bool) → x ≤ g → stolen_bound y (b + slice_bound + x + slice_charge) + x ≤ stolen_bound y (b + slice_bound + g + slice_charge) + g
    bound_more x true h = omega arith
    bound_more x false h = omega arith

    least : (y : Bool) → b ≤ stolen_bound y (b + slice_bound + g + slice_charge) + g
    least true = omega arith
    least false = omega arith

    ends_more : {t' b' : ℕ} (o : Outcome) → t' ≤ T → b' ≤ B → Ends t' b' o → Ends T B o
    ends_more o h i f z = within_more h i (f z)

    -- s: the state in which the call begins, with a tick counted or not
    module _ (t₁ : ℕ) (s : State) (p : t ≤ t₁) (q : t₁ ≤ t + 1) (f : CpuFits n s.cpu) (o : Good s) (a : Low n t₁ b s) (l : (spent time s.cpu).ticks ≤ g) (turn : Turn steals s) where
      abbrev v : Spent
      v = spent time s.cpu

      abbrev s₁ : State
      s₁ = before_selection time s

      kept₁ : Good s₁
      kept₁ = before_selection_kept c n M.contexts time s (live_fixed c n M W) soon o

      low₂ : Low n (t₁ + 1 + time) (b + slice_bound + v.ticks + slice_charge) (charge_holder v s₁)
      low₂ =
          let h = kept₁.cpu.scalars.sched.below in
          let e = context_fits c n M W F s₁ kept₁ s₁.cpu.block.sched_ctxt h in
          charge_low s₁ h (before_low time s f a) e.prio e.rem_slice v

      scheduled : Ends T B (after_schedule k time (schedule k time M.cpus s))
      unfolding schedule select_next_context
      scheduled =
          ends_more (after_schedule k time (schedule k time M.cpus s)) (omega arith) (bound_more v.ticks steals l)
          (selection c n M W F k time here is_present soon t b R (t₁ + 1 + time) (b + slice_bound + v.ticks + slice_charge) (charge_holder v s₁) (charge_kept c n M.contexts s₁ kept₁ v) low₂ (omega arith) (omega arith) steals s
          (charge_same (watched s) v s₁ (selection_same (watched s) time s refl)) turn (was_idle s.cpu) v)

      ended : (u : State) → Low n (t₁ + time) b u → Ends T B (finish k M.cpus 1 u)
      ended u d = ends_more (finish k M.cpus 1 u) (omega arith) (least steals) (finished c n M W F k time here is_present soon t b R (t₁ + time) b 0 M.cpus 1 u W.cpus (others_more (omega arith) (omega arith) (others c n M W F k time here is_present soon t b R)) d)

      inner_by : (d : Option State) → MaybeLow n t₁ b time d → Ends T B (switch_inner_by k time M.cpus s d)
      unfolding switch_inner_by
      inner_by None d = scheduled
      inner_by (Some u) d = ended u d

      inner : Ends T B (switch_inner k time M.cpus s)
      unfolding switch_inner
      inner =
          let h = o.cpu.scalars.sched.below in
          inner_by (try_direct_switch_back k time s) (back_low n t₁ b time k s o.cpu.scalars.current.below h (context_fits c n M W F s o s.cpu.block.sched_ctxt h) a)

      direct_or : (d : Option State) → MaybeLow n t₁ b time d → Ends T B (direct_switch_or k time M.cpus s d)
      unfolding direct_switch_or
      direct_or None d = inner
      direct_or (Some u) d = ended u d

    ticked_low : Low n (t + 1) b (ticked (state_of k M))
    ticked_low =
        let m : Low n (t + 1) b (state_of k M) = low_more (omega arith) (omega arith) (start_low c n M W F k time here is_present soon t b R) in
        let x = m.below.cpu in
        record {
          below = record {
            context = m.below.context;
            cpu = record {
              schedule_time = x.schedule_time;
              pit_ticks = omega (arith, (start_low c n M W F k time here is_present soon t b R).below.cpu.pit_ticks);
              user = x.user;
              kernel = x.kernel;
              idle = x.idle;
              context_switches = x.context_switches;
              syscall_switches = x.syscall_switches;
              v = x.v;
              total_weight = x.total_weight;
              entry_vtime = x.entry_vtime;
              entry_vd = x.entry_vd;
              timer_wake = x.timer_wake;
            };
          };
          published = m.published;
        }

    ticked_fits : CpuFits n (ticked (state_of k M)).cpu
    ticked_fits =
        let o = F.cpu k here in
        record {
          current = o.current;
          sched = o.sched;
          idle = o.idle;
          queue = o.queue;
          timers = o.timers;
          local = o.local;
          ipi = o.ipi;
          entry = o.entry;
          timer = o.timer;
          local_name = o.local_name;
          ipi_name = o.ipi_name;
          keys_rise = o.keys_rise;
          timers_rise = o.timers_rise;
          remainder = o.remainder;
        }

    -- the ticks of the turn, and whether it may be a stealing one, by the machine before the call
    module _ (l : (spent time (cpu_at M k)).ticks ≤ g) (turn : Turn steals (state_of k M)) where
      pub decision_grows : (call : Call) → TargetFormed n M.contexts call → Ends T B (outcome call k time M)
      unfolding tick switch direct_switch_to
      decision_grows by_tick a =
          let s : State = ticked (state_of k M) in
          pick (Ends T B) (ltb s.cpu.block.pit_ticks 3)
          (λ z. ends_more (finish k M.cpus 0 s) (omega arith) (least steals) (finished c n M W F k time here is_present soon t b R (t + 1) b 0 M.cpus 0 s W.cpus (others_more (omega arith) (omega arith) (others c n M W F k time here is_present soon t b R)) ticked_low))
          (λ z. inner (t + 1) s (omega arith) (omega arith) ticked_fits (start_kept c n M W F k time here is_present soon t b R) ticked_low l turn)
      decision_grows by_switch a = inner t (state_of k M) (omega arith) (omega arith) (F.cpu k here) (start_kept c n M W F k time here is_present soon t b R) (start_low c n M W F k time here is_present soon t b R) l turn
      decision_grows (by_direct_switch x) a =
          let s : State = state_of k M in
          pick (Ends T B) (eqb s.cpu.block.current_ctxt x) (λ z. ends_more (finish k M.cpus 1 s) (omega arith) (least steals) (finished c n M W F k time here is_present soon t b R t b 0 M.cpus 1 s W.cpus (others c n M W F k time here is_present soon t b R) (start_low c n M W F k time here is_present soon t b R)))
          (λ z. direct_or t s (omega arith) (omega arith) (F.cpu k here) (start_kept c n M W F k time here is_present soon t b R) (start_low c n M W F k time here is_present soon t b R) l turn _
          (direct_low n t b time k x s (start_kept c n M W F k time here is_present soon t b R).cpu.scalars.current.below a.below (context_fits c n M W F s (start_kept c n M W F k time here is_present soon t b R) x a.below) (start_low c n M W F k time here is_present soon t b R) (eqb s.cpu.block.sched_ctxt x) false))
