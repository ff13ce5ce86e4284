-- Queues stay in order: keys rise, and each entry's id is its context's. Assumes nothing.
use mathlib.Core.Path.{◌≡◌}
use mathlib.Core.Bool.{Bool}
use mathlib.Core.List.{List}
use Prim.Native.Nat.{ℕ}
use Rattle.context.specs.declared.Context.{Context}
use Rattle.weights.specs.Weights.{weight}
use Rattle.entries.specs.declared.Key.{Key}
use Rattle.entries.specs.declared.Entry.{Entry}
use Rattle.entries.specs.Order.{entry_before}
use Rattle.entries.specs.Queue.{keyed, queue_insert, queue_remove}
use Rattle.percpu.specs.Cpu.{Cpu}
use Rattle.machine.specs.Machine.{context_at}
use Rattle.model.specs.State.{State, at, put_context, insert_entry, holder}
use Rattle.model.specs.Wakeup.{without_old_key, enter}
use Rattle.model.specs.Choice.{without_keys}
use Rattle.model.specs.Steal.{Moving, give_up, first_wins, move_entry}
use Rattle.model.proofs.Cases.{pick}
use Rattle.model.proofs.Lists.{All, fold_keeps}
use Rattle.model.proofs.Sorted.{Sorted, all_insert, all_remove, insert_sorted, remove_sorted}
use Rattle.entries.proofs.Ordered.{entries_ordered}
use Rattle.model.specs.Handover.{requeue}
use Rattle.context.specs.Key.{queue_key, with_new_key, entry_of}

-- P: what holds of every entry
module _ (P : Entry → Type 0) where
  pub record Ordered (q : List Entry) : Type 0 where
    pub each : All P q
    pub rise : Sorted entry_before q

  pub insert_ordered : (e : Entry) (q : List Entry) → P e → Ordered q → Ordered (queue_insert e q)
  insert_ordered e q p o = record { each = all_insert entry_before P e q p o.each; rise = insert_sorted entries_ordered e q o.rise }

  pub remove_ordered : (k : Key) (q : List Entry) → Ordered q → Ordered (queue_remove k q)
  remove_ordered k q o = record { each = all_remove entry_before P (keyed k) q o.each; rise = remove_sorted entries_ordered (keyed k) q o.rise }

  pub without_ordered : (ks : List Key) (q : List Entry) → Ordered q → Ordered (without_keys q ks)
  without_ordered ks q o = fold_keeps Ordered (λ (l : List Entry) (k : Key). queue_remove k l) (λ l k h. remove_ordered k l h) q ks o

  pub old_key_ordered : (c : Context) (q : List Entry) → Ordered q → Ordered (without_old_key c q)
  old_key_ordered c q o = pick Ordered c.has_queue_key (λ z. remove_ordered (queue_key c) q o) (λ z. o)

  -- a CPU that an entry is stolen from
  pub give_up_ordered : (e : Entry) (v : Cpu) → Ordered v.queue → Ordered (give_up e v).queue
  give_up_ordered e v o = remove_ordered e.key v.queue o

-- cs: the contexts before the call, whose ids no stage changes
module _ (cs : List Context) where
  abbrev pub HasId : Entry → Type 0
  HasId e = e.key.ctxt_id ≡ (context_at cs e.context_ref).debug_id

  abbrev InOrder : List Entry → Type 0
  InOrder q = Ordered HasId q

  -- every insertion of a decision: of a context that wakes up, of a holder that lost, of a stolen one
  pub enter_in_order : (x : ℕ) (c : Context) (s : State) → c.debug_id ≡ (context_at cs x).debug_id → InOrder s.cpu.queue → InOrder (enter x c s).cpu.queue
  unfolding enter
  enter_in_order x c s e o = insert_ordered HasId _ _ e (old_key_ordered HasId c s.cpu.queue o)

  pub requeue_in_order : (s : State) → (holder s).debug_id ≡ (context_at cs s.cpu.block.sched_ctxt).debug_id → InOrder s.cpu.queue → InOrder (requeue s).cpu.queue
  unfolding requeue
  requeue_in_order s e o =
      let x : ℕ = s.cpu.block.sched_ctxt in
      pick (λ (u : State). InOrder (insert_entry (entry_of x (weight (holder s).prio) (holder s)) (put_context x (with_new_key (holder s)) u)).cpu.queue) (holder s).has_queue_key
      (λ z. insert_ordered HasId _ _ e (remove_ordered HasId (queue_key (holder s)) s.cpu.queue o)) (λ z. insert_ordered HasId _ _ e o)

  pub move_in_order : (runs : Bool) (m : Moving) (e : Entry) → (at m.state e.context_ref).debug_id ≡ (context_at cs e.context_ref).debug_id
      → InOrder m.state.cpu.queue → InOrder (move_entry runs m e).state.cpu.queue
  unfolding move_entry
  move_in_order runs m e h o = pick (λ (n : Moving). InOrder n.state.cpu.queue) (first_wins runs m.winner) (λ z. o) (λ z. insert_ordered HasId _ _ h o)
