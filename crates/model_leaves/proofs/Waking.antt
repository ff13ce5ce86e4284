-- Wake-ups keep a machine well-formed. Assumes nothing.
use Rattle.std.specs.Prelude.{None, Option, Some}
use mathlib.Core.Path.{◌≡◌, refl, sym, ap, ◌∙◌, subst}
use mathlib.Core.Logic.{◌⊎◌, inl, inr}
use mathlib.Core.Bool.{true}
use mathlib.Core.List.{List, map}
use Prim.Native.Nat.{ℕ, ◌<◌, ◌≤◌}
use native.Mathlib.Omega.{arith}
use lib.ListN.{length}
use Rattle.columns.specs.Common.{keep, In}
use Rattle.context.specs.declared.Context.{Context}
use Rattle.context.specs.Block.{woken}
use Rattle.weights.specs.Weights.{weight, full_slice, min_weight, max_weight}
use Rattle.weights.proofs.Table.{weight_low, weight_high}
use Rattle.entries.specs.declared.Entry.{Entry}
use Rattle.entries.specs.Order.{entry_before, is_due}
use Rattle.entries.specs.Queue.{keyed}
use Rattle.percpu.specs.With.{cpu_queue}
use Rattle.machine.specs.Machine.{context_at}
use Rattle.model.specs.State.{State, at, put_context, on_cpu}
use Rattle.model.specs.Wakeup.{Wakeup, is_live_timer, waits_for, timer_wakeup, local_wakeup, wakeups, stays, drained, put_back, woken_by, activated, without_old_key, entering, enter, wake_as, serve_wakeup, serve_wakeups}
use Rattle.model.proofs.Cases.{pick, never}
use Rattle.model.proofs.Lists.{all_at, fold_keeps_in, in_append, in_map, in_keep}
use Rattle.model.proofs.Ordered.{old_key_ordered}
use Rattle.model.proofs.WakeupCases.{asked, woke, wakeup_cases}
use Rattle.columns.proofs.Keep.{length_keep}
use Rattle.model_room.proofs.Lengths.{length_remove}
use Rattle.model_leaves.proofs.WellFormed.{Fixed, fixed, changing, FixedFormed, ChangingFormed, LiveName, EntryFormed, TimerFormed, TimersFormed, NamesFormed}
use Rattle.model_leaves.proofs.Lists.{timers_left}
use Rattle.model_leaves.proofs.Kept.{KeptState, put_kept, same_fixed, live_name, insert_kept, timer_kept, name_kept, queue_kept}
use Rattle.numbers.specs.Limits.{max_number}
use Rattle.context.specs.Key.{queue_key, entry_of}

-- a context made runnable at its wake
pub woken_formed : {c : ℕ} (x : Context) → ChangingFormed c (changing x) → ChangingFormed c (changing (woken x))
woken_formed x o =
    record {
      cpu_id = o.cpu_id;
      schedule_time = o.schedule_time;
      switch_time = o.switch_time;
      wake = omega arith;
      no_wake = λ z. refl;
      rem_slice = o.rem_slice;
      key_rem_slice = o.key_rem_slice;
      no_key = o.no_key;
    }

by_formed : {c : ℕ} (o : Option ℕ) (x : Context) → ChangingFormed c (changing x) → ChangingFormed c (changing (woken_by o x))
by_formed None x f = f
by_formed {c} (Some t) x f = pick (λ (q : Context). ChangingFormed c (changing q)) (waits_for t x) (λ e. woken_formed x f) (λ e. f)

by_fixed : (o : Option ℕ) (x : Context) → fixed (woken_by o x) ≡ fixed x
by_fixed None x = refl
by_fixed (Some t) x = pick (λ (q : Context). fixed q ≡ fixed x) (waits_for t x) (λ e. refl) (λ e. refl)

-- the wake of a timer
abbrev WakeFormed : Option ℕ → Type 0
WakeFormed None = Unit {0}
WakeFormed (Some t) = t ≤ max_number

record WakeupFormed (n : ℕ) (w : Wakeup) : Type 0 where
  name : w.context_ref < n
  wake : WakeFormed w.wake

wakeups_formed : (n time : ℕ) (s : State) → TimersFormed n s.cpu.timers → NamesFormed n s.cpu.local_wakeup_list → (w : Wakeup) → In w (wakeups time s) → WakeupFormed n w
unfolding wakeups
wakeups_formed n time s o l w i = go (in_append (map timer_wakeup (keep (is_live_timer s) (keep (is_due time) s.cpu.timers))) _ w i)
  where
    go : In w (map timer_wakeup (keep (is_live_timer s) (keep (is_due time) s.cpu.timers))) ⊎ In w (map local_wakeup s.cpu.local_wakeup_list) → WakeupFormed n w
    go (inl h) =
        let (t, j, e) = in_map timer_wakeup (keep (is_live_timer s) (keep (is_due time) s.cpu.timers)) w h in
        let (j₁, a) = in_keep (is_live_timer s) (keep (is_due time) s.cpu.timers) t j in
        let (j₂, b) = in_keep (is_due time) s.cpu.timers t j₁ in
        let f = all_at (TimerFormed n) s.cpu.timers o.each t j₂ in
        subst (WakeupFormed n) (sym e) (record { name = f.name; wake = f.wake })
    go (inr h) =
        let (x, j, e) = in_map local_wakeup s.cpu.local_wakeup_list w h in
        subst (WakeupFormed n) (sym e) (record { name = all_at (λ (y : ℕ). y < n) s.cpu.local_wakeup_list l x j; wake = tt })

-- live: what no call changes of a live context is in its range
module _ (c n : ℕ) (cs₀ : List Context) (live : (x : ℕ) → LiveName n cs₀ x → FixedFormed (fixed (context_at cs₀ x))) where
  abbrev Good : State → Type 0
  Good s = KeptState c n cs₀ s

  -- the entry of a live context with a weight, and with its own
  pub entry_formed : (x w : ℕ) (q : Context) → x < n → min_weight ≤ w → w ≤ max_weight → fixed q ≡ fixed (context_at cs₀ x) → q.rem_slice ≤ full_slice
      → EntryFormed n cs₀ (entry_of x w q)
  entry_formed x w q h l g f r =
      record { name = h; light = g; heavy = l; rem_slice = r; id = ap (λ (z : Fixed). z.debug_id) f }

  pub own_formed : (x : ℕ) (q r : Context) → LiveName n cs₀ x → fixed q ≡ fixed (context_at cs₀ x) → fixed r ≡ fixed q → r.rem_slice ≤ full_slice
      → EntryFormed n cs₀ (entry_of x (weight q.prio) r)
  own_formed x q r a f g h =
      let p : q.prio ≡ (context_at cs₀ x).prio = ap (λ (z : Fixed). z.prio) f in
      let l : q.prio < 40 = omega (arith, (live x a).prio) in
      entry_formed x (weight q.prio) r a.below (weight_low q.prio l) (weight_high q.prio l) (g ∙ f) h

  put_back_kept : (o : Option ℕ) (x : ℕ) (s : State) → WakeFormed o → x < n → Good s → Good (put_back o x s)
  put_back_kept None x s f h g = name_kept c n cs₀ s g x h
  put_back_kept (Some t) x s f h g = timer_kept c n cs₀ s g (record { wake = t; context_ref = x }) (record { name = h; wake = f })

  entering_formed : (v : ℕ) (q : Context) → ChangingFormed c (changing q) → ChangingFormed c (changing (entering v q))
  entering_formed v q o =
      record {
        cpu_id = o.cpu_id;
        schedule_time = o.schedule_time;
        switch_time = o.switch_time;
        wake = o.wake;
        no_wake = o.no_wake;
        rem_slice = omega arith;
        key_rem_slice = omega arith;
        no_key = λ z. never {b = true} refl z;
      }

  -- q: the record as it enters, a live context's that may just have been woken
  enter_kept : (x : ℕ) (q : Context) (s : State) → Good s → LiveName n cs₀ x → fixed q ≡ fixed (at s x)
      → (ChangingFormed c (changing (at s x)) → ChangingFormed c (changing q)) → Good (enter x q s)
  unfolding enter
  enter_kept x q s o a f g =
      let r = entering s.cpu.block.v q in
      let l : List Entry = without_old_key q s.cpu.queue in
      let u : State = on_cpu (λ p. cpu_queue (without_old_key q p.queue) (activated q p)) s in
      let k : Good u =
      queue_kept c n cs₀ s o l
      (old_key_ordered (EntryFormed n cs₀) q s.cpu.queue o.cpu.lists.queue)
      (pick (λ (d : List Entry). length d ≤ length s.cpu.queue) q.has_queue_key (λ e. length_remove entry_before (keyed (queue_key q)) s.cpu.queue) (λ e. omega arith))
      in
      insert_kept c n cs₀ (put_context x r u)
      (put_kept c n cs₀ u k x r a f (λ z. entering_formed s.cpu.block.v q (g z)))
      (entry_of x (weight q.prio) r)
      (own_formed x q r a (f ∙ same_fixed c n cs₀ s o x a.below) refl (omega arith))

  serve_kept : (s : State) (w : Wakeup) → WakeupFormed n w → Good s → Good (serve_wakeup s w)
  unfolding serve_wakeup wake_as
  serve_kept s w f o =
      let x : ℕ = w.context_ref in
      wakeup_cases s w (λ r. Good (wake_as s w r)) o (λ a. put_back_kept w.wake x s f.wake f.name o)
      (λ a l e. enter_kept x (woke s w) s o (live_name c n cs₀ s o x f.name a.live) (by_fixed w.wake (asked s w)) (by_formed w.wake (asked s w)))
      (λ a t. put_kept c n cs₀ s o x (woke s w) (live_name c n cs₀ s o x f.name a.live) (by_fixed w.wake (asked s w)) (by_formed w.wake (asked s w)))

  drained_kept : (time : ℕ) (s : State) → Good s → Good (drained time s)
  drained_kept time s o =
      let k = o.cpu.lists in
      record {
        count = o.count;
        context = o.context;
        cpu = record {
          scalars = o.cpu.scalars;
          lists = record { queue = k.queue; timers = timers_left (stays time s) s.cpu.timers k.timers; local = tt; ipi = k.ipi };
        };
        room = λ z.
            let r = o.room z in
            record {
              queue = r.queue;
              timers = omega (arith, r.timers, length_keep (stays time s) s.cpu.timers);
              local = omega arith;
              ipi = r.ipi;
              queue_len = r.queue_len;
            };
      }

  pub wakeups_kept : (time : ℕ) (s : State) → Good s → Good (serve_wakeups time s)
  unfolding serve_wakeups
  wakeups_kept time s o =
      fold_keeps_in Good serve_wakeup (wakeups time s) (λ u w i. serve_kept u w (wakeups_formed n time s o.cpu.lists.timers o.cpu.lists.local w i)) (drained time s) (drained_kept time s o)
