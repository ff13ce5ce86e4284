-- What comes after the stealing is the kernel's. Assumes nothing.
use Rattle.std.specs.Prelude.{None, Option, Some, is_some}
use mathlib.Core.Path.{◌≡◌, refl, sym, ap}
use mathlib.Core.Bool.{Bool, true, false, not, ◌&&◌, ◌||◌}
use Prim.Native.Nat.{ℕ}
use lib.Dec.{eqb}
use Rattle.context.specs.declared.Context.{Context}
use Rattle.context.specs.Status.{is_runnable}
use Rattle.context.specs.Key.{queue_key, with_new_key, entry_of}
use Rattle.weights.specs.Weights.{weight}
use Rattle.entries.specs.declared.Entry.{Entry}
use Rattle.runnable.specs.declared.UpdateResult.{UpdateResult}
use Rattle.runnable.specs.declared.UpdateResult.TheVariants.{CanSwitch, Skip, Blocked}
use Rattle.runnable.specs.Runnable.{update_runnable}
use Rattle.model.specs.State.{State, at, put_context, push_local, on_cpu, insert_entry, holder}
use Rattle.model.specs.Steal.{Stealing, mark_stealable}
use Rattle.model.specs.Handover.{advance, requeue, settled, next_context, hand_over}
use Rattle.model.specs.SwitchTo.{saved, switch_to, direct_switch_by, try_direct_switch_back}
use Rattle.plain_model.specs.State as lists
use Rattle.plain_model.specs.State.{placed, Different}
use Rattle.plain_model.specs.Handover as plain
use Rattle.plain_model.specs.Decision.{placed_stealing}
use Rattle.plain_model.proofs.Places.{through_if, Places, places, by_placed, if_places, put_placed, insert_placed, remove_placed}
use Rattle.plain_model.proofs.Robbed.{Steals, stealable_is}

advance_placed : (runs : Bool) (w : Option ℕ) (n : ℕ) (s : State) → Different s.cpu → Places (advance runs w n s) (advance runs w n (placed s))
unfolding advance
advance_placed runs w n s d =
    if_places ((is_some w || runs) && not (eqb s.cpu.block.total_weight 0)) (record { is = refl; differ = record { queue = d.queue; timers = d.timers } }) (places s d)

requeue_placed : (s : State) → Different s.cpu → Places (plain.requeue s) (requeue (placed s))
unfolding plain.requeue requeue
requeue_placed s d =
    let x : ℕ = s.cpu.block.sched_ctxt in
    let c : Context = holder s in
    let e : Entry = entry_of x (weight c.prio) c in
    by_placed (lists.insert_entry e) (insert_entry e) (λ u h. insert_placed u h e)
    (by_placed (put_context x (with_new_key c)) (put_context x (with_new_key c)) (λ u h. put_placed u h x (with_new_key c))
    (if_places c.has_queue_key (remove_placed s d (queue_key c)) (places s d)))

stealable_placed : (s : State) → Different s.cpu → Places (on_cpu mark_stealable s) (on_cpu mark_stealable (placed s))
stealable_placed s d =
    record {
      is = λ i. record { contexts = s.contexts; cpu = stealable_is s.cpu i; no_room = s.no_room };
      differ = record { queue = d.queue; timers = d.timers };
    }

settled_of : (runs : Bool) (n : ℕ) (l : Stealing) → Different l.state.cpu → Places (plain.settled runs n l) (settled runs n (placed_stealing l))
unfolding plain.settled settled
settled_of runs n l d =
    by_placed (on_cpu mark_stealable) (on_cpu mark_stealable) stealable_placed
    (if_places (is_some l.winner && runs) (by_placed plain.requeue requeue requeue_placed (advance_placed runs l.winner n l.state d))
    (advance_placed runs l.winner n l.state d))

pub settled_placed : (runs : Bool) (n : ℕ) {l L : Stealing} → Steals l L → Places (plain.settled runs n l) (settled runs n L)
settled_placed runs n {l} {L} p = rw (← p.is) (settled_of runs n l p.here)

-- from here on no entry and no timer moves
pub next_is : (runs : Bool) (w : Option ℕ) (s : State) → next_context runs w (placed s) ≡ next_context runs w s
unfolding next_context
next_is runs None s = refl
next_is runs (Some x) s = refl

pub handed_is : (time : ℕ) (was_idle : Bool) (x : ℕ) (s : State) → placed (hand_over time was_idle x s) ≡ hand_over time was_idle x (placed s)
unfolding hand_over
handed_is time was_idle x s = refl

-- an Option of a state, placed
abbrev pub placed_option : Option State → Option State
placed_option None = None
placed_option (Some s) = Some (placed s)

module _ (k time : ℕ) where
  saved_is : (s : State) → placed (saved k time s) ≡ saved k time (placed s)
  saved_is s =
      let x : ℕ = s.cpu.block.current_ctxt in
      let c : Context = at s x in
      sym (through_if placed (not (eqb s.cpu.block.sched_ctxt x) && not c.has_queue_key && is_runnable c.status) {u = push_local x s} {w = s} refl refl)

  pub switched_is : (x : ℕ) (s : State) → placed (switch_to k time x s) ≡ switch_to k time x (placed s)
  unfolding switch_to
  switched_is x s = rw (← saved_is s)

  pub direct_is : (x : ℕ) (s : State) (u : UpdateResult) → placed_option (direct_switch_by k time x s u) ≡ direct_switch_by k time x (placed s) u
  unfolding direct_switch_by
  direct_is x s Skip = refl
  direct_is x s Blocked = refl
  direct_is x s (CanSwitch c) = ap Some (switched_is x (put_context x c s))

  pub back_is : (s : State) → placed_option (try_direct_switch_back k time s) ≡ try_direct_switch_back k time (placed s)
  unfolding try_direct_switch_back
  back_is s =
      let x : ℕ = s.cpu.block.sched_ctxt in
      let u : UpdateResult = update_runnable k time true false (at s x) in
      sym (through_if placed_option (eqb s.cpu.block.current_ctxt x) {u = None} {w = direct_switch_by k time x s u} refl (sym (direct_is x s u)))
