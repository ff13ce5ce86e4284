-- Wake-ups read and write contexts that the CPU names, and leave it naming no other. Assumes nothing.
use Rattle.std.specs.Prelude.{None, Option, Some}
use mathlib.Core.Path.{◌≡◌, refl, ap, ◌∙◌}
use mathlib.Core.Bool.{Bool, true}
use mathlib.Core.List.{List, [], ◌∷◌, ◌++◌, map}
use Prim.Native.Nat.{ℕ}
use Rattle.columns.specs.Common.{fold, keep, All}
use Rattle.context.specs.declared.Context.{Context}
use Rattle.entries.specs.declared.Entry.{Entry}
use Rattle.entries.specs.declared.Timer.{Timer}
use Rattle.entries.specs.Queue.{keyed}
use Rattle.entries.specs.Order.{entry_before, is_due}
use Rattle.context.specs.Key.{queue_key, entry_of}
use Rattle.weights.specs.Weights.{weight}
use Rattle.percpu.specs.With.{cpu_queue, cpu_timers, cpu_local_wakeup_list}
use Rattle.model.specs.State.{State, on_cpu, insert_entry}
use Rattle.model.specs.Wakeup.{Wakeup, is_live_timer, timer_wakeup, local_wakeup, wakeups, stays, drained, put_back, without_old_key, entering, activated, enter, WakeupResult, dropped, locked, woken_only, entered, wakeup_result, wake_as, serve_wakeup, serve_wakeups}
use Rattle.model.proofs.Cases.{by_test}
use Rattle.model.proofs.Sorted.{all_remove}
use Rattle.model_local.specs.Local.{others}
use Rattle.model_local.proofs.Others.{keep_same, all_keep, all_append, fold_through, fold_holds, at_others, put_others}
use Rattle.model_local.proofs.Owned.{Owns, OfTimer, OfEntry, OfNumber, with_queue, with_timers, with_list, with_record, with_entry, with_timer, with_name}

module _ (S : ℕ → Bool) (n : ℕ) where
  -- what a wake-up leaves
  put_back_owns : (o : Option ℕ) (x : ℕ) (s : State) → S x ≡ true → Owns S n s → Owns S n (put_back o x s)
  put_back_owns None x s h o = with_name S n x h o
  put_back_owns (Some t) x s h o = with_timer S n (record { wake = t; context_ref = x }) h o

  old_key_within : (c : Context) (q : List Entry) → All (OfEntry S n) q → All (OfEntry S n) (without_old_key c q)
  old_key_within c q h = by_test c.has_queue_key (λ t. rw t (all_remove entry_before (OfEntry S n) (keyed (queue_key c)) q h)) (λ t. rw t h)

  enter_owns : (x : ℕ) (c : Context) (s : State) → S x ≡ true → Owns S n s → Owns S n (enter x c s)
  unfolding enter
  enter_owns x c s h o =
      let c' = entering s.cpu.block.v c in
      with_entry S n (entry_of x (weight c.prio) c') h (with_record S n x c' (with_queue S n (without_old_key c s.cpu.queue) (old_key_within c s.cpu.queue o.within.queued) o))

  wake_owns : (s : State) (w : Wakeup) (r : WakeupResult) → S w.context_ref ≡ true → Owns S n s → Owns S n (wake_as s w r)
  unfolding wake_as
  wake_owns s w dropped h o = o
  wake_owns s w locked h o = put_back_owns w.wake w.context_ref s h o
  wake_owns s w (woken_only c) h o = with_record S n w.context_ref c o
  wake_owns s w (entered c) h o = enter_owns w.context_ref c s h o

  serve_owns : (s : State) (w : Wakeup) → S w.context_ref ≡ true → Owns S n s → Owns S n (serve_wakeup s w)
  unfolding serve_wakeup
  serve_owns s w h o = wake_owns s w (wakeup_result s w) h o

  drained_owns : (time : ℕ) (s : State) → Owns S n s → Owns S n (drained time s)
  drained_owns time s o = with_timers S n (keep (stays time s) s.cpu.timers) (all_keep (OfTimer S n) (stays time s) s.cpu.timers o.within.timed) (with_list S n [] tt o)

  abbrev OfWakeup : Wakeup → Type 0
  OfWakeup w = S w.context_ref ≡ true

  timers_wake : (ts : List Timer) → All (OfTimer S n) ts → All OfWakeup (map timer_wakeup ts)
  timers_wake [] h = tt
  timers_wake (t ∷ ts) h = (h.0, timers_wake ts h.1)

  names_wake : (xs : List ℕ) → All (OfNumber S n) xs → All OfWakeup (map local_wakeup xs)
  names_wake [] h = tt
  names_wake (x ∷ xs) h = (h.0, names_wake xs h.1)

  wakeups_own : (time : ℕ) (s : State) → Owns S n s → All OfWakeup (wakeups time s)
  unfolding wakeups
  wakeups_own time s o =
      all_append OfWakeup (map timer_wakeup (keep (is_live_timer s) (keep (is_due time) s.cpu.timers))) (map local_wakeup s.cpu.local_wakeup_list)
      (timers_wake (keep (is_live_timer s) (keep (is_due time) s.cpu.timers)) (all_keep (OfTimer S n) (is_live_timer s) (keep (is_due time) s.cpu.timers) (all_keep (OfTimer S n) (is_due time) s.cpu.timers o.within.timed)))
      (names_wake s.cpu.local_wakeup_list o.within.listed_here)

  pub serves_owns : (time : ℕ) (s : State) → Owns S n s → Owns S n (serve_wakeups time s)
  unfolding serve_wakeups
  serves_owns time s o =
      fold_holds OfWakeup (Owns S n) (λ u. u) serve_wakeup (λ b a p q. refl) (λ b a p q. serve_owns b a p q) (wakeups time s) (wakeups_own time s o) (drained time s) (drained_owns time s o)

-- the same with other contexts outside the set
module _ (S : ℕ → Bool) (n : ℕ) (ds : List Context) where
  abbrev G : State → State
  G = others S ds

  put_back_moves : (o : Option ℕ) (x : ℕ) (s : State) → put_back o x (G s) ≡ G (put_back o x s)
  put_back_moves None x s = refl
  put_back_moves (Some t) x s = refl

  enter_moves : (x : ℕ) (c : Context) (s : State) → S x ≡ true → enter x c (G s) ≡ G (enter x c s)
  unfolding enter
  enter_moves x c s h =
      let c' = entering s.cpu.block.v c in
      ap (insert_entry (entry_of x (weight c.prio) c')) (put_others S ds (on_cpu (λ p. cpu_queue (without_old_key c p.queue) (activated c p)) s) x h c')

  wake_moves : (s : State) (w : Wakeup) (r : WakeupResult) → S w.context_ref ≡ true → wake_as (G s) w r ≡ G (wake_as s w r)
  unfolding wake_as
  wake_moves s w dropped h = refl
  wake_moves s w locked h = put_back_moves w.wake w.context_ref s
  wake_moves s w (woken_only c) h = put_others S ds s w.context_ref h c
  wake_moves s w (entered c) h = enter_moves w.context_ref c s h

  result_same : (s : State) (w : Wakeup) → S w.context_ref ≡ true → wakeup_result (G s) w ≡ wakeup_result s w
  unfolding wakeup_result
  result_same s w h = rw (at_others S ds s w.context_ref h)

  serve_moves : (s : State) (w : Wakeup) → S w.context_ref ≡ true → serve_wakeup (G s) w ≡ G (serve_wakeup s w)
  unfolding serve_wakeup
  serve_moves s w h = ap (wake_as (G s) w) (result_same s w h) ∙ wake_moves s w (wakeup_result s w) h

  wakeups_same : (time : ℕ) (s : State) → Owns S n s → wakeups time (G s) ≡ wakeups time s
  unfolding wakeups
  wakeups_same time s o =
      ap (λ (ts : List Timer). map timer_wakeup ts ++ map local_wakeup s.cpu.local_wakeup_list)
      (keep_same (OfTimer S n) (is_live_timer (G s)) (is_live_timer s) (λ t h. rw (at_others S ds s t.context_ref h))
      (keep (is_due time) s.cpu.timers) (all_keep (OfTimer S n) (is_due time) s.cpu.timers o.within.timed))

  drained_moves : (time : ℕ) (s : State) → Owns S n s → drained time (G s) ≡ G (drained time s)
  drained_moves time s o =
      ap (λ (ts : List Timer). G (on_cpu (λ p. cpu_timers ts (cpu_local_wakeup_list [] p)) s))
      (keep_same (OfTimer S n) (stays time (G s)) (stays time s) (λ t h. rw (at_others S ds s t.context_ref h)) s.cpu.timers o.within.timed)

  pub serves_moves : (time : ℕ) (s : State) → Owns S n s → serve_wakeups time (G s) ≡ G (serve_wakeups time s)
  unfolding serve_wakeups
  serves_moves time s o =
      (λ j. fold serve_wakeup (drained_moves time s o j) (wakeups_same time s o j))
      ∙ fold_through (OfWakeup S n) (Owns S n) G serve_wakeup (λ b a p q. serve_moves b a p) (λ b a p q. serve_owns S n b a p q)
      (wakeups time s) (wakeups_own S n time s o) (drained time s) (drained_owns S n time s o)
