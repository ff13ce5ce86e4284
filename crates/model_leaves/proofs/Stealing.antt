-- Stealing keeps a machine well-formed: the state, and every other CPU. Assumes nothing.
use Rattle.std.specs.Prelude.{Option}
use mathlib.Core.Path.{◌≡◌, refl, ◌∙◌}
use mathlib.Core.Bool.{Bool, true, false, not, ◌||◌}
use mathlib.Core.List.{List, [], ◌∷◌}
use Prim.Native.Nat.{ℕ, ◌+◌, ◌<◌, ◌%◌}
use native.Mathlib.Omega.{arith}
use native.Mathlib.Nat.{mod-lt}
use lib.ListN.{length, get_or, length-set}
use Rattle.columns.specs.Common.{In}
use Rattle.context.specs.declared.Context.{Context}
use Rattle.entries.specs.declared.Entry.{Entry}
use Rattle.entries.specs.Order.{entry_before}
use Rattle.entries.specs.Queue.{keyed}
use Rattle.percpu.specs.Cpu.{Cpu}
use Rattle.percpu.specs.With.{cpu_total_weight}
use Rattle.machine.specs.Machine.{context_at, no_cpu}
use Rattle.machine.proofs.Steps.{get_d_set}
use Rattle.model.specs.State.{State, at, put_context, on_cpu, insert_entry}
use Rattle.model.specs.Steal.{Stealing, Moving, count_steal, should_steal, targets, can_steal_from, want, moved, first_wins, give_up, move_entry, published, mark_stealable, after_moving, steal_entries, steal_from, steal}
use Rattle.model.proofs.Cases.{pick, never, or_neither, not_is_false}
use Rattle.model.proofs.Lists.{all_at, fold_keeps, fold_keeps_in}
use Rattle.model.proofs.Ordered.{give_up_ordered}
use Rattle.model.proofs.Candidates.{candidates_taking, candidates_in}
use Rattle.model.proofs.CpuQueues.{stealable_present}
use Rattle.model_room.proofs.Lengths.{length_remove}
use Rattle.model_leaves.proofs.WellFormed.{fixed, changing, FixedFormed, ChangingFormed, LiveName, EntryFormed, view, ListsFormed, CpuFormed, Room, Stands, present}
use Rattle.model_leaves.proofs.Lists.{present_formed}
use Rattle.model_leaves.proofs.Kept.{KeptState, put_kept, live_formed, same_fixed, live_name, insert_kept, scalars_kept}
use Rattle.model_leaves.proofs.Waking.{entry_formed}
use Rattle.model_leaves.proofs.Choosing.{WinnerFormed}
use Rattle.context.specs.Key.{with_new_key, entry_of}
use Rattle.numbers.specs.Limits.{word_range}

moved_formed : {c : ℕ} (here there w : ℕ) (q : Context) → ChangingFormed c (changing q) → ChangingFormed c (changing (moved here there w q))
moved_formed here there w q o =
    record {
      cpu_id = o.cpu_id;
      schedule_time = o.schedule_time;
      switch_time = o.switch_time;
      wake = o.wake;
      no_wake = o.no_wake;
      rem_slice = o.rem_slice;
      key_rem_slice = omega arith;
      no_key = λ z. (refl, refl);
    }

-- a record with the key that its deadline and slice give it
pub keyed_formed : {c : ℕ} (q : Context) → ChangingFormed c (changing q) → ChangingFormed c (changing (with_new_key q))
keyed_formed q o =
    record {
      cpu_id = o.cpu_id;
      schedule_time = o.schedule_time;
      switch_time = o.switch_time;
      wake = o.wake;
      no_wake = o.no_wake;
      rem_slice = o.rem_slice;
      key_rem_slice = o.rem_slice;
      no_key = λ z. never {b = true} refl z;
    }

module _ (c n : ℕ) (cs₀ : List Context) (live : (x : ℕ) → LiveName n cs₀ x → FixedFormed (fixed (context_at cs₀ x))) where
  abbrev Good : State → Type 0
  Good s = KeptState c n cs₀ s

  record MovingKept (m : Moving) : Type 0 where
    state : Good m.state
    victim : CpuFormed n cs₀ (view m.victim)
    room : Room (view m.victim).lists
    winner : WinnerFormed c n cs₀ m.winner

  pub record StealKept (l : Stealing) : Type 0 where
    pub state : Good l.state
    pub count : length l.cpus ≡ c
    pub cpus : (j : ℕ) → Stands n cs₀ (get_or l.cpus j no_cpu)
    pub winner : WinnerFormed c n cs₀ l.winner

  -- an entry of a live context is moved
  module _ (runs : Bool) (m : Moving) (e : Entry) (o : MovingKept m) (f : EntryFormed n cs₀ e) (a : LiveName n cs₀ e.context_ref) where
    abbrev x : ℕ
    x = e.context_ref

    abbrev q : Context
    q = moved m.state.cpu.block.v m.victim.block.v e.weight (at m.state x)

    q_formed : ChangingFormed c (changing (at m.state x)) → ChangingFormed c (changing q)
    q_formed = moved_formed m.state.cpu.block.v m.victim.block.v e.weight (at m.state x)

    abbrev s : State
    s = on_cpu (λ p. cpu_total_weight (p.block.total_weight + e.weight) p) m.state

    victim_formed : CpuFormed n cs₀ (view (give_up e m.victim))
    victim_formed =
        let k = o.victim.lists in
        record {
          scalars = o.victim.scalars;
          lists = record { queue = give_up_ordered (EntryFormed n cs₀) e m.victim k.queue; timers = k.timers; local = k.local; ipi = k.ipi };
        }

    victim_room : Room (view (give_up e m.victim)).lists
    victim_room =
        let r = o.room in
        record {
          queue = omega (arith, r.queue, length_remove entry_before (keyed e.key) m.victim.queue);
          timers = r.timers;
          local = r.local;
          ipi = r.ipi;
          queue_len = r.queue_len;
        }

    inserted : Good (insert_entry (entry_of x e.weight q) (put_context x (with_new_key q) s))
    inserted =
        insert_kept c n cs₀ (put_context x (with_new_key q) s)
        (put_kept c n cs₀ s o.state x (with_new_key q) a refl (λ z. keyed_formed q (q_formed z))) (entry_of x e.weight q)
        (entry_formed c n cs₀ live x e.weight q a.below f.heavy f.light (same_fixed c n cs₀ m.state o.state x a.below)
        (live_formed c n cs₀ m.state o.state x a).rem_slice)

    move_kept : MovingKept (move_entry runs m e)
    unfolding move_entry
    move_kept =
        pick MovingKept (first_wins runs m.winner)
        (λ z. record { state = put_kept c n cs₀ s o.state x q a refl q_formed; victim = victim_formed; room = victim_room; winner = a })
        (λ z. record { state = inserted; victim = victim_formed; room = victim_room; winner = o.winner })

  module _ (runs : Bool) (l : Stealing) (t : ℕ) (v : Cpu) (o : StealKept l) (f : CpuFormed n cs₀ (view v)) (r : Room (view v).lists) where
    start : MovingKept (record { state = l.state; victim = v; winner = l.winner })
    start = record { state = o.state; victim = f; room = r; winner = o.winner }

    -- what is published on both CPUs
    after_kept : (m : Moving) → MovingKept m → StealKept (after_moving t l.cpus m)
    after_kept m k =
        let p = published m.state.cpu in
        record {
          state = record {
            count = k.state.count;
            context = k.state.context;
            cpu = record { scalars = k.state.cpu.scalars; lists = own k.state.cpu.lists };
            room = λ z. let y = k.state.room z in record { queue = y.queue; timers = y.timers; local = y.local; ipi = y.ipi; queue_len = omega (arith, y.queue) };
          };
          count = length-set l.cpus t _ ∙ o.count;
          cpus = λ j.
              get_d_set l.cpus t j (mark_stealable (published m.victim)) no_cpu (Stands n cs₀)
              (present (record { scalars = k.victim.scalars; lists = other k.victim.lists })
              (let y = k.room in record { queue = y.queue; timers = y.timers; local = y.local; ipi = y.ipi; queue_len = omega (arith, y.queue) }))
              (o.cpus j);
          winner = k.winner;
        }
      where
        own : ListsFormed n cs₀ (view m.state.cpu).lists → ListsFormed n cs₀ (view (published m.state.cpu)).lists
        own y = record { queue = y.queue; timers = y.timers; local = y.local; ipi = y.ipi }

        other : ListsFormed n cs₀ (view m.victim).lists → ListsFormed n cs₀ (view (mark_stealable (published m.victim))).lists
        other y = record { queue = y.queue; timers = y.timers; local = y.local; ipi = y.ipi }

    entries_kept : (es : List Entry) → ((e : Entry) → In e es → EntryFormed n cs₀ e × LiveName n cs₀ e.context_ref) → StealKept (steal_entries runs l t v es)
    unfolding steal_entries
    entries_kept [] g = o
    entries_kept (e ∷ es) g =
        after_kept _ (fold_keeps_in MovingKept (move_entry runs) (e ∷ es) (λ m d i k. move_kept runs m d k (g d i).0 (g d i).1) (record { state = l.state; victim = v; winner = l.winner }) start)

  from_kept : (k : ℕ) (runs : Bool) (locked : List ℕ) (l : Stealing) (t : ℕ) → StealKept l → StealKept (steal_from k runs locked l t)
  unfolding steal_from
  from_kept k runs locked l t o =
      let v : Cpu = get_or l.cpus t no_cpu in
      pick StealKept (l.done || not (can_steal_from l.state v)) (λ z. o)
      (λ z.
      let (f, r) = present_formed v (stealable_present l.state v (not_is_false _ (or_neither l.done _ z).1)) (o.cpus t) in
      let q = f.lists.queue in
      let taken = candidates_taking k locked l.state.contexts l.winner (want l.state v) v.queue q.rise in
      entries_kept runs l t v o f r _
      (λ e i.
      let h = all_at (EntryFormed n cs₀) v.queue q.each e (candidates_in k locked l.state.contexts l.winner (want l.state v) v.queue e i) in
      (h, live_name c n cs₀ l.state o.state e.context_ref h.name (taken.alive e i))))

  -- the counter stays a 64-bit number
  counted_kept : (s : State) → Good s → Good (on_cpu count_steal s)
  counted_kept s o =
      let k = o.cpu.scalars in
      let h : (s.cpu.block.steal_counter + 1) % word_range < word_range = mod-lt _ (omega arith) in
      scalars_kept c n cs₀ s o count_steal refl
      (record { present = k.present; current = k.current; sched = k.sched; idle = k.idle; schedule_time = k.schedule_time; steal_counter = omega arith; remainder = k.remainder })

  pub steal_kept : (k : ℕ) (runs : Bool) (locked : List ℕ) (cpus : List Cpu) (w : Option ℕ) (s : State) → length cpus ≡ c → ((j : ℕ) → Stands n cs₀ (get_or cpus j no_cpu))
      → WinnerFormed c n cs₀ w → Good s → StealKept (steal k runs locked cpus w s)
  unfolding steal
  steal_kept k runs locked cpus w s l a b o =
      let u : StealKept (record { state = on_cpu count_steal s; cpus = cpus; winner = w; done = false }) =
      record { state = counted_kept s o; count = l; cpus = a; winner = b } in
      pick StealKept (should_steal s w) (λ z. fold_keeps StealKept (steal_from k runs locked) (from_kept k runs locked) _ (targets k (length cpus)) u) (λ z. u)
