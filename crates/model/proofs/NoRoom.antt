-- Once an insertion found no room the mark stays to the end: a call may be refused as soon as it is set.
use Rattle.std.specs.Prelude.{if◌then◌else◌, None, Option, Some, is_some}
use mathlib.Core.Path.{◌≡◌}
use mathlib.Core.Bool.{Bool, true, not, ◌&&◌, ◌||◌}
use mathlib.Core.List.{List, [], ◌∷◌}
use Prim.Native.Nat.{ℕ}
use lib.Dec.{eqb}
use lib.ListN.{get_or, length}
use Rattle.answer.specs.declared.Rule.{Rule}
use Rattle.context.specs.Status.{is_runnable}
use Rattle.ticks.specs.declared.Spent.{Spent}
use Rattle.weights.specs.Weights.{weight}
use Rattle.entries.specs.declared.Entry.{Entry}
use Rattle.percpu.specs.Cpu.{Cpu}
use Rattle.machine.specs.Machine.{no_cpu}
use Rattle.model.specs.State.{State, at, on_cpu, put_context, remove_key, insert_entry, holder, is_idle}
use Rattle.model.specs.Wakeup.{Wakeup, put_back, enter, wake_as, serve_wakeup, serve_wakeups, wakeups, drained}
use Rattle.model.specs.Turn.{count_switch, times, holder_stopped, charge_holder, before_selection, before_choice}
use Rattle.model.specs.Scan.{Scan}
use Rattle.model.specs.Choice.{Choice, cleaned_up, taken_out, chosen}
use Rattle.model.specs.Steal.{Stealing, Moving, should_steal, can_steal_from, first_wins, move_entry, steal_entries, steal_from, steal, targets}
use Rattle.model.specs.SwitchTo.{switch_to}
use Rattle.model.specs.Schedule.{choose_and_steal, selected, select_next_context, picked_as, schedule, switch_as, after_schedule}
use Rattle.model.proofs.Cases.{pick}
use Rattle.model.proofs.Lists.{fold_keeps}
use Rattle.model.proofs.WakeupCases.{wakeup_cases}
use Rattle.context.specs.Key.{queue_key, with_new_key, entry_of}
use Rattle.model.specs.Handover.{advance, requeue, hand_over, settled}

abbrev pub Full : State → Type 0
Full s = s.no_room ≡ true

put_back_full : (o : Option ℕ) (x : ℕ) (s : State) → Full s → Full (put_back o x s)
put_back_full None x s h = rw h
put_back_full (Some t) x s h = rw h

pub serve_full : (s : State) (w : Wakeup) → Full s → Full (serve_wakeup s w)
unfolding serve_wakeup wake_as enter
serve_full s w h =
    wakeup_cases s w (λ r. Full (wake_as s w r)) h (λ a. put_back_full w.wake w.context_ref s h) (λ a l e. rw h) (λ a t. h)

pub serve_wakeups_full : (time : ℕ) (s : State) → Full s → Full (serve_wakeups time s)
unfolding serve_wakeups
serve_wakeups_full time s h = fold_keeps Full serve_wakeup serve_full (drained time s) (wakeups time s) h

pub charge_full : (n : Spent) (s : State) → Full s → Full (charge_holder n s)
unfolding charge_holder holder_stopped
charge_full n s h =
    pick Full (is_idle s) (λ t. h)
    (λ t. pick Full (is_runnable (holder s).status) (λ r. h) (λ r. pick Full (holder s).has_wake (λ w. rw h) (λ w. h)))

pub before_choice_full : (time : ℕ) (s : State) → Full s → Full (before_choice time s)
unfolding before_choice before_selection
before_choice_full time s h = charge_full _ (on_cpu (times time) (serve_wakeups time (on_cpu count_switch s))) (serve_wakeups_full time (on_cpu count_switch s) h)

taken_out_full : (o : Option ℕ) (s : State) → Full s → Full (taken_out o s)
taken_out_full None s h = h
taken_out_full (Some x) s h = pick Full (at s x).has_queue_key (λ t. h) (λ t. h)

pub chosen_full : (w : Choice) (f : Scan) (s : State) → Full s → Full (chosen w f s)
unfolding chosen cleaned_up
chosen_full w f s h = taken_out_full w.winner _ h

abbrev FullMoving : Moving → Type 0
FullMoving m = Full m.state

abbrev FullStealing : Stealing → Type 0
FullStealing l = Full l.state

move_full : (runs : Bool) (m : Moving) (e : Entry) → FullMoving m → FullMoving (move_entry runs m e)
unfolding move_entry
move_full runs m e h = pick FullMoving (first_wins runs m.winner) (λ t. h) (λ t. rw h)

steal_entries_full : (runs : Bool) (l : Stealing) (t : ℕ) (v : Cpu) (es : List Entry) → FullStealing l → FullStealing (steal_entries runs l t v es)
unfolding steal_entries
steal_entries_full runs l t v [] h = h
steal_entries_full runs l t v (e ∷ es) h =
    fold_keeps FullMoving (move_entry runs) (move_full runs) (record { state = l.state; victim = v; winner = l.winner }) (e ∷ es) h

steal_from_full : (k : ℕ) (runs : Bool) (locked : List ℕ) (l : Stealing) (t : ℕ) → FullStealing l → FullStealing (steal_from k runs locked l t)
unfolding steal_from
steal_from_full k runs locked l t h =
    pick FullStealing (l.done || not (can_steal_from l.state (get_or l.cpus t no_cpu))) (λ z. h) (λ z. steal_entries_full runs l t _ _ h)

pub steal_full : (k : ℕ) (runs : Bool) (locked : List ℕ) (cpus : List Cpu) (w : Option ℕ) (s : State) → Full s → FullStealing (steal k runs locked cpus w s)
unfolding steal
steal_full k runs locked cpus w s h =
    pick FullStealing (should_steal s w)
    (λ t. fold_keeps FullStealing (steal_from k runs locked) (steal_from_full k runs locked) _ (targets k (length cpus)) h) (λ t. h)

advance_full : (runs : Bool) (w : Option ℕ) (n : ℕ) (s : State) → Full s → Full (advance runs w n s)
unfolding advance
advance_full runs w n s h = pick Full ((is_some w || runs) && not (eqb s.cpu.block.total_weight 0)) (λ t. h) (λ t. h)

requeue_full : (s : State) → Full s → Full (requeue s)
unfolding requeue
requeue_full s h = kept_full (put_context s.cpu.block.sched_ctxt (with_new_key (holder s)) z) (pick Full (holder s).has_queue_key (λ t. h) (λ t. h))
  where
    z : State
    z = if (holder s).has_queue_key then remove_key (queue_key (holder s)) s else s

    kept_full : (u : State) → Full u → Full (insert_entry (entry_of s.cpu.block.sched_ctxt (weight (holder s).prio) (holder s)) u)
    kept_full u f = rw f

pub settled_full : (k time : ℕ) (runs : Bool) (n : ℕ) (l : Stealing) → FullStealing l → Full (settled runs n l)
unfolding settled
settled_full k time runs n l h =
    pick Full (is_some l.winner && runs) (λ t. requeue_full (advance runs l.winner n l.state) (advance_full runs l.winner n l.state h))
    (λ t. advance_full runs l.winner n l.state h)

pub switch_to_full : (k time x : ℕ) (s : State) → Full s → Full (switch_to k time x s)
unfolding switch_to
switch_to_full k time x s h =
    pick Full
    (not (eqb s.cpu.block.sched_ctxt s.cpu.block.current_ctxt) && not (at s s.cpu.block.current_ctxt).has_queue_key && is_runnable (at s s.cpu.block.current_ctxt).status)
    (λ t. rw h) (λ t. h)

-- whatever follows a state without room, the call finds none
picked_full : (k time : ℕ) (was : Bool) (rule : Rule) (cpus : List Cpu) (o : Option ℕ) (s : State) → Full s
    → (after_schedule k time (picked_as time was rule cpus o s)).no_room ≡ true
unfolding after_schedule picked_as switch_as hand_over
picked_full k time was rule cpus None s h = h
picked_full k time was rule cpus (Some x) s h =
    pick Full (eqb (hand_over time was x s).cpu.block.current_ctxt x) (λ t. h) (λ t. switch_to_full k time x (hand_over time was x s) h)

pub schedule_full : (k time : ℕ) (cpus : List Cpu) (s : State) → Full s → (after_schedule k time (schedule k time cpus s)).no_room ≡ true
unfolding schedule select_next_context selected choose_and_steal before_choice
schedule_full k time cpus s h =
    picked_full k time _ _ _ _ _
    (settled_full k time _ _ _ (steal_full k _ _ cpus _ _ (chosen_full _ _ (before_choice time s) (before_choice_full time s h))))
