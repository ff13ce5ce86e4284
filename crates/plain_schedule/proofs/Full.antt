-- Once an insertion found no room the mark stays to the end of a decision. Assumes nothing.
use Rattle.std.specs.Prelude.{if◌then◌else◌, None, Option, Some, is_some}
use mathlib.Core.Path.{◌≡◌, refl, ◌∙◌}
use mathlib.Core.Bool.{Bool, true, not, ◌&&◌, ◌||◌}
use mathlib.Core.List.{List, [], ◌∷◌}
use Prim.Native.Nat.{ℕ}
use lib.Dec.{eqb}
use lib.ListN.{get_or, length}
use Rattle.context.specs.Key.{queue_key, with_new_key, entry_of}
use Rattle.weights.specs.Weights.{weight}
use Rattle.entries.specs.declared.Entry.{Entry}
use Rattle.ticks.specs.declared.Spent.{Spent}
use Rattle.percpu.specs.Cpu.{Cpu}
use Rattle.machine.specs.Machine.{no_cpu}
use Rattle.answer.specs.declared.Rule.{Rule}
use Rattle.model.specs.State.{State, at, put_context, holder}
use Rattle.model.specs.Scan.{Scan}
use Rattle.model.specs.Steal.{Stealing, Moving, should_steal, can_steal_from}
use Rattle.model.specs.Handover.{advance, hand_over}
use Rattle.model.specs.Schedule.{picked_as}
use Rattle.model.proofs.Cases.{pick}
use Rattle.model.proofs.Lists.{fold_keeps}
use Rattle.plain_model.specs.State.{insert_entry, remove_key}
use Rattle.plain_model.specs.Choice.{Choice, cleaned_up, taken_out, chosen}
use Rattle.plain_model.specs.Steal.{targets, move_entry, steal_entries, steal_from, steal}
use Rattle.plain_model.specs.Handover.{requeue, settled}
use Rattle.plain_model.specs.Schedule.{choose_and_steal, selected}
use Rattle.plain_moves.proofs.Moved.{move_stays}

abbrev pub Full : State → Type 0
Full s = s.no_room ≡ true

-- the choice inserts nothing
taken_room : (o : Option ℕ) (s : State) → (taken_out o s).no_room ≡ s.no_room
taken_room None s = refl
taken_room (Some x) s = pick (λ (z : State). z.no_room ≡ s.no_room) (at s x).has_queue_key (λ t. refl) (λ t. refl)

pub chosen_room : (w : Choice) (f : Scan) (s : State) → (chosen w f s).no_room ≡ s.no_room
unfolding chosen cleaned_up
chosen_room w f s = taken_room w.winner _

abbrev FullStealing : Stealing → Type 0
FullStealing l = Full l.state

entries_full : (runs : Bool) (l : Stealing) (t : ℕ) (v : Cpu) (es : List Entry) → FullStealing l → FullStealing (steal_entries runs l t v es)
unfolding steal_entries
entries_full runs l t v [] h = h
entries_full runs l t v (e ∷ es) h =
    fold_keeps (λ (m : Moving). Full m.state) (move_entry runs) (λ m a z. move_stays runs m a z) (record { state = l.state; victim = v; winner = l.winner }) (e ∷ es) h

from_full : (k : ℕ) (runs : Bool) (locked : List ℕ) (l : Stealing) (t : ℕ) → FullStealing l → FullStealing (steal_from k runs locked l t)
unfolding steal_from
from_full k runs locked l t h =
    pick FullStealing (l.done || not (can_steal_from l.state (get_or l.cpus t no_cpu))) (λ z. h) (λ z. entries_full runs l t _ _ h)

steal_full : (k : ℕ) (runs : Bool) (locked : List ℕ) (cpus : List Cpu) (w : Option ℕ) (s : State) → Full s → FullStealing (steal k runs locked cpus w s)
unfolding steal
steal_full k runs locked cpus w s h =
    pick FullStealing (should_steal s w) (λ t. fold_keeps FullStealing (steal_from k runs locked) (from_full k runs locked) _ (targets k (length cpus)) h) (λ t. h)

advance_full : (runs : Bool) (w : Option ℕ) (n : ℕ) (s : State) → Full s → Full (advance runs w n s)
unfolding advance
advance_full runs w n s h = pick Full ((is_some w || runs) && not (eqb s.cpu.block.total_weight 0)) (λ t. h) (λ t. h)

requeue_full : (s : State) → Full s → Full (requeue s)
unfolding requeue
requeue_full s h = kept_full (put_context s.cpu.block.sched_ctxt (with_new_key (holder s)) z) (pick Full (holder s).has_queue_key (λ t. h) (λ t. h))
  where
    z : State
    z = if (holder s).has_queue_key then remove_key (queue_key (holder s)) s else s

    kept_full : (u : State) → Full u → Full (insert_entry (entry_of s.cpu.block.sched_ctxt (weight (holder s).prio) (holder s)) u)
    kept_full u f = rw f

pub settled_full : (runs : Bool) (n : ℕ) (l : Stealing) → FullStealing l → Full (settled runs n l)
unfolding settled
settled_full runs n l h =
    pick Full (is_some l.winner && runs) (λ t. requeue_full (advance runs l.winner n l.state) (advance_full runs l.winner n l.state h))
    (λ t. advance_full runs l.winner n l.state h)

pub selected_full : (k time : ℕ) (n : Spent) (cpus : List Cpu) (s : State) → Full s → Full (selected k time n cpus s).state
unfolding selected choose_and_steal
selected_full k time n cpus s h = settled_full _ _ _ (steal_full k _ _ cpus _ _ (chosen_room _ _ s ∙ h))

pub picked_full : (time : ℕ) (was : Bool) (rule : Rule) (cpus : List Cpu) (o : Option ℕ) (s : State) → Full s → Full (picked_as time was rule cpus o s).state
unfolding picked_as hand_over
picked_full time was rule cpus None s h = h
picked_full time was rule cpus (Some x) s h = h
