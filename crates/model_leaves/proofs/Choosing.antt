-- The clean-up and the choice keep a machine well-formed, and who wins is a live context. Assumes nothing.
use Rattle.std.specs.Prelude.{None, Option, Some}
use mathlib.Core.Path.{refl}
use mathlib.Core.Bool.{◌&&◌, ◌||◌}
use mathlib.Core.List.{List}
use Prim.Native.Nat.{ℕ}
use native.Mathlib.Omega.{arith}
use lib.Dec.{leb}
use Rattle.context.specs.declared.Context.{Context}
use Rattle.entries.specs.declared.Entry.{Entry}
use Rattle.percpu.specs.With.{cpu_v}
use Rattle.machine.specs.Machine.{context_at}
use Rattle.model.specs.State.{State, at, put_context, on_cpu, holder, prev_runnable}
use Rattle.model.specs.Scan.{Scan}
use Rattle.model.specs.Choice.{Choice, cleaned_up, goes_before, prev_is_eligible, nobody, choice_by, choice, taken_out, chosen}
use Rattle.model.specs.Schedule.{scanned}
use Rattle.model.proofs.Cases.{pick}
use Rattle.model.proofs.Ordered.{without_ordered}
use Rattle.model_room.proofs.Lengths.{length_without}
use Rattle.model_leaves.proofs.WellFormed.{changing, ChangingFormed, LiveName, EntryFormed}
use Rattle.model_leaves.proofs.Kept.{KeptState, put_kept, key_kept}
use Rattle.model_leaves.proofs.Scanning.{BestFormed, ScanKept, scan_kept}
use Rattle.context.specs.Key.{queue_key, without_key}

unkeyed : {c : ℕ} (q : Context) → ChangingFormed c (changing q) → ChangingFormed c (changing (without_key q))
unkeyed q o =
    record {
      cpu_id = o.cpu_id;
      schedule_time = o.schedule_time;
      switch_time = o.switch_time;
      wake = o.wake;
      no_wake = o.no_wake;
      rem_slice = o.rem_slice;
      key_rem_slice = omega arith;
      no_key = λ z. (refl, refl);
    }

module _ (c n : ℕ) (cs₀ : List Context) where
  abbrev Good : State → Type 0
  Good s = KeptState c n cs₀ s

  -- whoever is named is alive
  abbrev pub WinnerFormed : Option ℕ → Type 0
  WinnerFormed None = Unit {0}
  WinnerFormed (Some x) = LiveName n cs₀ x

  -- the winner is the best entry's context or the best ineligible one's
  module _ (s : State) (f : Scan) (o : ScanKept c n cs₀ f) where
    abbrev Wins : Choice → Type 0
    Wins w = WinnerFormed w.winner

    nobody_wins : (e : Option Entry) → BestFormed c n cs₀ e → Wins (nobody s e)
    nobody_wins None h = tt
    nobody_wins (Some e) h =
        pick Wins (prev_runnable s && (leb (holder s).vtime e.vtime || leb (holder s).vd e.key.vd)) (λ z. tt) (λ z. h)

    by_best : (e : Option Entry) → BestFormed c n cs₀ e → Wins (choice_by s f e)
    by_best None h = pick Wins (prev_is_eligible s) (λ z. tt) (λ z. nobody_wins f.ineligible_best o.late)
    by_best (Some e) h =
        pick Wins (prev_is_eligible s && goes_before (holder s) (context_at f.contexts e.context_ref)) (λ z. tt) (λ z. h)

    choice_wins : Wins (choice s f)
    unfolding choice
    choice_wins = by_best f.eligible_best o.best

  cleaned_kept : (f : Scan) (s : State) → ScanKept c n cs₀ f → Good s → Good (cleaned_up f s)
  unfolding cleaned_up
  cleaned_kept f s g o =
      let k = o.cpu.lists in
      let l = length_without f.contexts_to_remove s.cpu.queue in
      record {
        count = g.count;
        context = g.context;
        cpu = record {
          scalars = o.cpu.scalars;
          lists = record { queue = without_ordered (EntryFormed n cs₀) f.contexts_to_remove s.cpu.queue k.queue; timers = k.timers; local = k.local; ipi = k.ipi };
        };
        room = λ z.
            let r = o.room z in
            record { queue = omega (arith, r.queue); timers = r.timers; local = r.local; ipi = r.ipi; queue_len = omega (arith, r.queue) };
      }

  taken_kept : (w : Option ℕ) (s : State) → WinnerFormed w → Good s → Good (taken_out w s)
  taken_kept None s a o = o
  taken_kept (Some x) s a o =
      let u : State = put_context x (without_key (at s x)) s in
      pick Good (at s x).has_queue_key
      (λ z. key_kept c n cs₀ u (put_kept c n cs₀ s o x (without_key (at s x)) a refl (unkeyed (at s x))) (queue_key (at s x))) (λ z. o)

  module _ (k time : ℕ) (s : State) (o : Good s) where
    pub chosen_wins : WinnerFormed (choice s (scanned k time s)).winner
    chosen_wins = choice_wins s (scanned k time s) (scan_kept c n cs₀ k time s o)

    pub chosen_kept : Good (chosen (choice s (scanned k time s)) (scanned k time s) s)
    unfolding chosen
    chosen_kept =
        let f = scanned k time s in
        let w = choice s f in
        let u : State = on_cpu (cpu_v w.v) (cleaned_up f s) in
        taken_kept w.winner u chosen_wins (cleaned_kept f s (scan_kept c n cs₀ k time s o) o)
