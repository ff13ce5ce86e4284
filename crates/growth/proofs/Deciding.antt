-- What a decision adds to what grows from the choice on. Assumes nothing.
use Rattle.std.specs.Prelude.{None, Option, Some}
use mathlib.Core.Path.{◌≡◌, refl, sym, subst}
use mathlib.Core.Logic.{◌≢◌, ◌⊎◌, inl, inr}
use mathlib.Core.Bool.{Bool, true, false}
use mathlib.Core.List.{List}
use Prim.Native.Nat.{ℕ, ◌+◌, ◌<◌, ◌≤◌}
use native.Mathlib.Omega.{arith}
use lib.Dec.{ltb, eqb}
use lib.ListN.{length, get_or, set}
use lib.Seq.{get_or-set_same, get_or-set_other}
use borrow.Author.Tests.{eqb-true, eqb-false, ltb-true, ltb-false}
use Rattle.answer.specs.declared.Rule.{Rule}
use Rattle.answer.specs.Number.{rule_number}
use Rattle.columns.proofs.Tabulate.{get_d_past}
use Rattle.ticks.specs.declared.Spent.{Spent}
use Rattle.cpu_stats.specs.declared.CpuState.TheVariants.{Idle}
use Rattle.cpu_stats.specs.With.{stats_state}
use Rattle.percpu.specs.Cpu.{Cpu}
use Rattle.percpu.specs.With.{cpu_stats}
use Rattle.percpu.specs.Words.{block_of}
use Rattle.machine.specs.Machine.{Machine, cpu_at, no_cpu}
use Rattle.machine.specs.Outcome.{Outcome}
use Rattle.machine.specs.Shape.{Fits}
use Rattle.model.specs.State.{State, on_cpu, state_of, prev_runnable}
use Rattle.model.specs.Choice.{Choice, choice, chosen}
use Rattle.model.specs.Steal.{Stealing, should_steal}
use Rattle.model.specs.Handover.{hand_over}
use Rattle.model.specs.Schedule.{finish_by, scanned, locks, choose_and_steal, selected, picked_as, switch_as, after_schedule}
use Rattle.model.proofs.Cases.{by_test, never, pick}
use Rattle.model.proofs.NoRoom.{Full, steal_full, settled_full, switch_to_full}
use Rattle.model_leaves.proofs.WellFormed.{WellFormed}
use Rattle.model_leaves.proofs.Kept.{KeptState}
use Rattle.model_leaves.proofs.Lists.{present_formed}
use Rattle.model_leaves.proofs.Choosing.{WinnerFormed, chosen_wins, chosen_kept}
use Rattle.model_leaves.proofs.Stealing.{StealKept, steal_kept}
use Rattle.model_leaves.proofs.Ending.{settled_kept, next_formed, hand_over_kept}
use Rattle.model_leaves.proofs.Deciding.{live_fixed, each_stands, contexts_start}
use Rattle.stages.specs.Stage.{CpuBelow}
use Rattle.stages.proofs.Kept.{context_more, cpu_more}
use Rattle.numbers.specs.Limits.{max_number}
use Rattle.growth.specs.declared.Bounds.{Bounds}
use Rattle.growth.specs.Growth.{Within}
use Rattle.growth.proofs.Low.{Low, low_more}
use Rattle.growth.proofs.Watched.{watched, chosen_same}
use Rattle.growth.proofs.Beginning.{chosen_low}
use Rattle.growth.proofs.Fitting.{state_fits}
use Rattle.growth.proofs.Stealing.{Others, others_more, Publishes, stolen_bound, StealLow, steal_low}
use Rattle.growth.proofs.Settling.{settled_low}
use Rattle.growth.proofs.Ending.{hand_over_low, switch_to_low}

abbrev pub bounds : ℕ → ℕ → Bounds
bounds t b = record { times = t; virtual_times = b }

pub within_more : {c n t b t' b' : ℕ} {M : Machine} → t ≤ t' → b ≤ b' → Within c n (bounds t b) M → Within c n (bounds t' b') M
within_more h g o =
    record {
      below = record { context = λ x l. context_more h g (o.below.context x l); cpu = λ k l. cpu_more h g (o.below.cpu k l) };
      published = λ k l. omega (arith, o.published k l);
    }

none_published : no_cpu.block.published_weight ≡ 0
unfolding no_cpu block_of
none_published = refl

-- whatever follows a state without room, the call finds none
picked_full : (k time : ℕ) (was : Bool) (rule : Rule) (cpus : List Cpu) (o : Option ℕ) (s : State) → Full s → (after_schedule k time (picked_as time was rule cpus o s)).no_room ≡ true
unfolding after_schedule picked_as switch_as hand_over
picked_full k time was rule cpus None s h = h
picked_full k time was rule cpus (Some x) s h =
    pick Full (eqb (hand_over time was x s).cpu.block.current_ctxt x) (λ t. h) (λ t. switch_to_full k time x (hand_over time was x s) h)

module _ (c n : ℕ) (M : Machine) (W : WellFormed c n M) (F : Fits c n M) (k time : ℕ) (here : k < c) (is_present : (cpu_at M k).block.present ≡ true) (soon : time ≤ max_number)
    (t b : ℕ) (R : Within c n (bounds t b) M) where
  abbrev Good : State → Type 0
  Good s = KeptState c n M.contexts s

  pub start_kept : Good (state_of k M)
  start_kept =
      let (f, r) = present_formed (cpu_at M k) is_present (W.cpu k here) in
      record { count = W.contexts; context = contexts_start c n M W; cpu = f; room = λ z. r }

  pub start_low : Low n t b (state_of k M)
  start_low = record { below = record { context = R.below.context; cpu = R.below.cpu k here }; published = R.published k here }

  pub others : Others c k t b M.cpus
  unfolding cpu_at
  others = record { below = λ j l e. R.below.cpu j l; published = λ j l e. R.published j l }

  all_publish : (b' : ℕ) → b ≤ b' → (j : ℕ) → Publishes b' (get_or M.cpus j no_cpu)
  unfolding cpu_at
  all_publish b' h j =
      by_test (ltb j c) (λ e. omega (arith, R.published j (ltb-true j c e))) (λ e. rw (get_d_past M.cpus j no_cpu (omega (arith, F.cpus, ltb-false j c e))) (omega (arith, none_published)))

  abbrev pub Ends : ℕ → ℕ → Outcome → Type 0
  Ends t' b' o = o.no_room ≡ false → Within c n (bounds t' b') o.machine

  pub finished : (t' b' rule : ℕ) (cpus : List Cpu) (r : ℕ) (s : State) → length cpus ≡ c → Others c k t' b' cpus → Low n t' b' s → Ends t' b' (finish_by rule k cpus r s)
  unfolding cpu_at
  finished t' b' rule cpus r s l o a z =
      let i : k < length cpus = omega arith in
      let e : get_or (set cpus k s.cpu) k no_cpu ≡ s.cpu = get_or-set_same cpus k s.cpu no_cpu i in
      let f : (j : ℕ) → j ≢ k → get_or (set cpus k s.cpu) j no_cpu ≡ get_or cpus j no_cpu = λ j y. get_or-set_other cpus k j s.cpu no_cpu y in
      record {
        below = record {
          context = a.below.context;
          cpu = λ j y. by_test (eqb j k) (λ q. subst (λ (x : ℕ). CpuBelow t' b' (get_or (set cpus k s.cpu) x no_cpu)) (sym (eqb-true j k q)) (subst (CpuBelow t' b') (sym e) a.below.cpu))
              (λ q. subst (CpuBelow t' b') (sym (f j (eqb-false j k q))) (o.below j y (eqb-false j k q)));
        };
        published = λ j y. by_test (eqb j k) (λ q. rw (eqb-true j k q, e) a.published) (λ q. rw (f j (eqb-false j k q)) (o.published j y (eqb-false j k q)));
      }

  switched : (t' b' rule : ℕ) (s : State) (cpus : List Cpu) (w : Option ℕ) → length cpus ≡ c → Others c k t' b' cpus → WinnerFormed c n M.contexts w → Good s → Low n t' b' s
      → Ends (t' + time) b' (switch_as k time rule s cpus w)
  unfolding switch_as
  switched t' b' rule s cpus None l o w g a =
      finished (t' + time) b' rule cpus 2 _ l (others_more (omega arith) (omega arith) o) (marked s (low_more (omega arith) (omega arith) a))
    where
      marked : (u : State) → Low n (t' + time) b' u → Low n (t' + time) b' (on_cpu (λ (p : Cpu). cpu_stats (stats_state Idle p.block.stats) p) u)
      marked u a =
          let x = a.below.cpu in
          record {
            below = record {
              context = a.below.context;
              cpu = record {
                schedule_time = x.schedule_time;
                pit_ticks = x.pit_ticks;
                user = x.user;
                kernel = x.kernel;
                idle = x.idle;
                context_switches = x.context_switches;
                syscall_switches = x.syscall_switches;
                v = x.v;
                total_weight = x.total_weight;
                entry_vtime = x.entry_vtime;
                entry_vd = x.entry_vd;
                timer_wake = x.timer_wake;
              };
            };
            published = a.published;
          }
  switched t' b' rule s cpus (Some x) l o w g a =
      finished (t' + time) b' rule cpus 1 _ l (others_more (omega arith) (omega arith) o)
      (pick (Low n (t' + time) b') (eqb s.cpu.block.current_ctxt x) (λ z. low_more (omega arith) (omega arith) a)
      (λ z. switch_to_low n t' b' time k x s g.cpu.scalars.current.below w.below a))

  picked : (t' b' : ℕ) (was : Bool) (rule : Rule) (cpus : List Cpu) (w : Option ℕ) (s : State) → length cpus ≡ c → Others c k t' b' cpus → WinnerFormed c n M.contexts w → Good s → Low n t' b' s
      → Ends (t' + time + time) b' (after_schedule k time (picked_as time was rule cpus w s))
  unfolding after_schedule picked_as
  picked t' b' was rule cpus None s l o w g a =
      switched (t' + time) b' (rule_number rule) s cpus None l (others_more (omega arith) (omega arith) o) w g (low_more (omega arith) (omega arith) a)
  picked t' b' was rule cpus (Some x) s l o w g a =
      switched (t' + time) b' (rule_number rule) (hand_over time was x s) cpus (Some x) l (others_more (omega arith) (omega arith) o) w (hand_over_kept c n M.contexts time soon was x s w g)
      (hand_over_low n t' b' time was x s g.cpu.scalars.sched.below w.below a)

  -- whether it may be a stealing turn, by the words of the state s that no stage before the stealing changes
  abbrev pub Turn : Bool → State → Type 0
  Turn steals s = steals ≡ false → ((u : State) (w : Option ℕ) → watched u ≡ watched s → should_steal u w ≡ false) ⊎ (c ≡ 1)

  turn_of : (s u : State) (w : Option ℕ) → watched u ≡ watched s → ((u : State) (w : Option ℕ) → watched u ≡ watched s → should_steal u w ≡ false) ⊎ (c ≡ 1) → (should_steal u w ≡ false) ⊎ (c ≡ 1)
  turn_of s u w e (inl f) = inl (f u w e)
  turn_of s u w e (inr f) = inr f

  -- s: the state before the choice, of the turn v that began in state s₀
  module _ (t' b' : ℕ) (s : State) (g : Good s) (a : Low n t' b' s) (p : t ≤ t') (q : b ≤ b') (steals : Bool) (s₀ : State) (same : watched s ≡ watched s₀) (turn : Turn steals s₀) where
    abbrev pub won : Choice
    won = choice s (scanned k time s)

    abbrev pub u : State
    u = chosen won (scanned k time s) s

    abbrev pub l : Stealing
    l = choose_and_steal k time M.cpus s

    u_kept : Good u
    u_kept = chosen_kept c n M.contexts k time s g

    l_kept : StealKept c n M.contexts (live_fixed c n M W) l
    unfolding choose_and_steal
    l_kept =
        steal_kept c n M.contexts (live_fixed c n M W) k (prev_runnable s) (locks s won) M.cpus won.winner u W.cpus (each_stands c n M W) (chosen_wins c n M.contexts k time s g) u_kept

    l_low : u.no_room ≡ false → StealLow c n k t' (stolen_bound steals b') l
    unfolding choose_and_steal
    l_low z =
        steal_low k M here u (prev_runnable s) (locks s won) won.winner (state_fits c n M W F k u u_kept z) z (chosen_low k time s g.cpu.scalars.sched.below a)
        (others_more p q others) l_kept.count (all_publish b' q) steals (λ e. turn_of s₀ u won.winner (chosen_same (watched s₀) won (scanned k time s) s same) (turn e))

    l_full : u.no_room ≡ true → Full l.state
    unfolding choose_and_steal
    l_full e = steal_full k (prev_runnable s) (locks s won) M.cpus won.winner u e

    pub selection : (was : Bool) (v : Spent)
        → Ends (t' + time + time) (stolen_bound steals b' + v.ticks)
        (after_schedule k time (picked_as time was (selected k time v M.cpus s).rule (selected k time v M.cpus s).cpus (selected k time v M.cpus s).next (selected k time v M.cpus s).state))
    unfolding selected
    selection was v z =
        by_test u.no_room
        (λ e. never (picked_full k time was _ l.cpus _ _ (settled_full k time (prev_runnable s) v.ticks l (l_full e))) z)
        (λ e.
        let o = l_low e in
        let y = settled_kept c n M.contexts (live_fixed c n M W) k time (prev_runnable s) v.ticks l l_kept.state in
        picked t' (stolen_bound steals b' + v.ticks) was _ l.cpus _ _ l_kept.count (others_more (omega arith) (omega arith) o.others)
        (next_formed c n M.contexts (prev_runnable s) l.winner _ l_kept.winner y) y
        (settled_low (prev_runnable s) v.ticks l l_kept.state.cpu.scalars.sched.below o.state) z)
