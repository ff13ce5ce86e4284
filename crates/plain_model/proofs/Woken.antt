-- Wake-ups by their turns are the kernel's. Assumes nothing.
use Rattle.std.specs.Prelude.{None, Option, Some}
use mathlib.Core.Path.{◌≡◌, refl}
use mathlib.Core.List.{List}
use Prim.Native.Nat.{ℕ}
use Rattle.context.specs.declared.Context.{Context}
use Rattle.context.specs.Key.{queue_key, entry_of}
use Rattle.weights.specs.Weights.{weight}
use Rattle.entries.specs.declared.Entry.{Entry}
use Rattle.entries.specs.Order.{entry_before}
use Rattle.entries.proofs.Ordered.{entries_ordered, timers_ordered}
use Rattle.percpu.specs.Cpu.{Cpu}
use Rattle.percpu.specs.With.{cpu_queue}
use Rattle.model.specs.State.{State, put_context, on_cpu, insert_entry}
use Rattle.model.specs.Wakeup.{Wakeup, stays, activated, entering, WakeupResult, dropped, locked, woken_only, entered, wakeup_result, wakeups, drained, put_back, without_old_key, enter, wake_as, serve_wakeup, serve_wakeups}
use Rattle.model.proofs.Cases.{by_test}
use Rattle.plain_model.specs.Rank.{by_rank, Differ}
use Rattle.plain_model.specs.State as lists
use Rattle.plain_model.specs.State.{placed, Different}
use Rattle.plain_model.specs.Wakeup as plain
use Rattle.plain_model.proofs.Ranked.{keep_differs}
use Rattle.plain_model.proofs.Placing.{by_rank_keep, leave_out_differs}
use Rattle.plain_model.proofs.Places.{Places, places, by_placed, fold_places, queue_without_is, put_placed, push_placed, insert_placed, timer_placed}

module _ (c : Context) (q : List Entry) (d : Differ entry_before q) where
  old_key_is : by_rank entry_before (plain.without_old_key c q) ≡ without_old_key c (by_rank entry_before q)
  old_key_is = by_test c.has_queue_key (λ t. rw t (queue_without_is (queue_key c) q d)) (λ t. rw t)

  old_key_differs : Differ entry_before (plain.without_old_key c q)
  old_key_differs = by_test c.has_queue_key (λ t. rw t (leave_out_differs entries_ordered _ q d)) (λ t. rw t d)

module _ (s : State) (d : Different s.cpu) where
  old_key_placed : (x : ℕ) (c c' : Context)
      → Places (put_context x c' (on_cpu (λ (p : Cpu). cpu_queue (plain.without_old_key c p.queue) (activated c p)) s))
      (put_context x c' (on_cpu (λ (p : Cpu). cpu_queue (without_old_key c p.queue) (activated c p)) (placed s)))
  old_key_placed x c c' =
      record {
        is = rw (old_key_is c s.cpu.queue d.queue);
        differ = record { queue = old_key_differs c s.cpu.queue d.queue; timers = d.timers };
      }

  enter_placed : (x : ℕ) (c : Context) → Places (plain.enter x c s) (enter x c (placed s))
  unfolding plain.enter enter
  enter_placed x c =
      let e : Entry = entry_of x (weight c.prio) (entering s.cpu.block.v c)
      in by_placed (lists.insert_entry e) (insert_entry e) (λ u h. insert_placed u h e) (old_key_placed x c (entering s.cpu.block.v c))

  back_placed : (w : Option ℕ) (x : ℕ) → Places (plain.put_back w x s) (put_back w x (placed s))
  back_placed None x = push_placed s d x
  back_placed (Some wake) x = timer_placed s d _

  as_placed : (w : Wakeup) (r : WakeupResult) → Places (plain.wake_as s w r) (wake_as (placed s) w r)
  unfolding plain.wake_as wake_as
  as_placed w dropped = places s d
  as_placed w locked = back_placed w.wake w.context_ref
  as_placed w (woken_only c) = put_placed s d w.context_ref c
  as_placed w (entered c) = enter_placed w.context_ref c

  result_placed : (w : Wakeup) → wakeup_result (placed s) w ≡ wakeup_result s w
  unfolding wakeup_result
  result_placed w = refl

  wakeups_placed : (time : ℕ) → plain.wakeups time s ≡ wakeups time (placed s)
  unfolding plain.wakeups wakeups
  wakeups_placed time = refl

  drained_placed : (time : ℕ) → Places (plain.drained time s) (drained time (placed s))
  drained_placed time =
      record {
        is = rw (by_rank_keep timers_ordered (stays time s) s.cpu.timers d.timers);
        differ = record { queue = d.queue; timers = keep_differs timers_ordered (stays time s) s.cpu.timers d.timers };
      }

pub served_placed : (w : Wakeup) (s : State) → Different s.cpu → Places (plain.serve_wakeup s w) (serve_wakeup (placed s) w)
unfolding plain.serve_wakeup serve_wakeup
served_placed w s d = rw (result_placed s d w) (as_placed s d w (wakeup_result s w))

pub wakeups_served : (time : ℕ) (s : State) → Different s.cpu → Places (plain.serve_wakeups time s) (serve_wakeups time (placed s))
unfolding plain.serve_wakeups serve_wakeups
wakeups_served time s d =
    rw (← wakeups_placed s d time) (fold_places plain.serve_wakeup serve_wakeup served_placed (plain.wakeups time s) (drained_placed s d time))
