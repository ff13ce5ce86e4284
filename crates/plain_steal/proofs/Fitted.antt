-- Stealing leaves every state and every CPU in its ranges. Assumes nothing.
use Rattle.std.specs.Prelude.{Option, Some}
use Rattle.std.proofs.Common.{◌≡◌, ℕ, zero, suc, ◌+◌, ◌%◌, ◌<◌, ◌≤◌, Bool, false, not, ◌||◌, List, [], ◌∷◌, length, get_or, subst, arith}
use Rattle.columns.specs.Common.{fold, All, is_empty}
use Rattle.context.specs.declared.Context.{Context}
use Rattle.context.specs.Key.{with_new_key, entry_of}
use Rattle.entries.specs.declared.Entry.{Entry}
use Rattle.entries.specs.Order.{entry_before}
use Rattle.entries.specs.Queue.{keyed}
use Rattle.entries.proofs.Ordered.{entries_ordered}
use Rattle.numbers.specs.Limits.{word_range}
use Rattle.percpu.specs.Cpu.{Cpu}
use Rattle.percpu.specs.Words.{block_of}
use Rattle.percpu.specs.With.{block_total_weight, block_queue_len, block_published_weight, block_stealable, block_steal_counter}
use Rattle.machine.specs.Machine.{no_cpu}
use Rattle.machine.specs.Shape.{ContextFits, EntryFits}
use Rattle.model.specs.State.{State, at, put_context, on_cpu}
use Rattle.model.specs.Steal.{Stealing, Moving, first_wins, published, mark_stealable, count_steal, should_steal, can_steal_from, want}
use Rattle.model.proofs.Cases.{pick}
use Rattle.plain_model.specs.Steal.{candidates, targets, give_up, move_entry, steal_entries, steal_from, steal}
use Rattle.plain_model.proofs.Placing.{leave_out_differs}
use Rattle.plain_state.specs.Fits.{CpuFitsInAnyOrder, StateFits}
use Rattle.plain_state.proofs.Parts.{all_left, block_fits}
use Rattle.plain_state.proofs.Fitting.{block_changed, context_put, entry_inserted}
use Rattle.plain_candidates.proofs.Gathered.{candidates_each}
use Rattle.plain_moves.specs.Moves.{stolen_record, heavier}
use Rattle.plain_steal.specs.Stealing.{CpusFit}
use Rattle.plain_steal.proofs.Robbed.{all_set}

pub least : (x : ℕ) → 0 ≤ x
least x = omega arith

-- whoever is named is one of the n contexts
abbrev Named : ℕ → Option ℕ → Type 0
Named n w = (x : ℕ) → w ≡ Some x → x < n

some_same : {x y : ℕ} → Some x ≡ Some y → x ≡ y
some_same e = cc

module _ (n : ℕ) where
  record MovingFits (m : Moving) : Type 0 where
    state : StateFits n m.state
    victim : CpuFitsInAnyOrder n m.victim
    named : Named n m.winner

  gives_up : (e : Entry) (v : Cpu) → CpuFitsInAnyOrder n v → CpuFitsInAnyOrder n (give_up e v)
  gives_up e v o =
      record {
        current = o.current;
        sched = o.sched;
        idle = o.idle;
        entries = all_left (EntryFits n) entry_before (keyed e.key) v.queue o.entries;
        timers = o.timers;
        local = o.local;
        ipi = o.ipi;
        remainder = o.remainder;
        differ = record { queue = leave_out_differs entries_ordered (keyed e.key) v.queue o.differ.queue; timers = o.differ.timers };
      }

  module _ (runs : Bool) (m : Moving) (e : Entry) (f : EntryFits n e) (o : MovingFits m) where
    abbrev x : ℕ
    x = e.context_ref

    abbrev q : Context
    q = stolen_record m e

    held : ContextFits 4 (at m.state x)
    held = o.state.context x f.name

    q_fits : ContextFits 4 q
    q_fits = record { cpu_id = held.cpu_id; prio = held.prio; rem_slice = held.rem_slice }

    keyed_fits : ContextFits 4 (with_new_key q)
    keyed_fits = record { cpu_id = held.cpu_id; prio = held.prio; rem_slice = held.rem_slice }

    abbrev s : State
    s = heavier e.weight m.state

    s_fits : StateFits n s
    s_fits = block_changed m.state o.state (block_total_weight (m.state.cpu.block.total_weight + e.weight) m.state.cpu.block) (record { current = o.state.cpu.current; sched = o.state.cpu.sched; idle = o.state.cpu.idle })

    move_fits : MovingFits (move_entry runs m e)
    unfolding move_entry
    move_fits =
        pick MovingFits (first_wins runs m.winner)
        (λ t. record { state = context_put s s_fits x q q_fits; victim = gives_up e m.victim o.victim; named = λ y h. subst (λ (j : ℕ). j < n) (some_same h) f.name })
        (λ t.
        record {
          state = entry_inserted (put_context x (with_new_key q) s) (context_put s s_fits x (with_new_key q) keyed_fits) (entry_of x e.weight q) (record { name = f.name; light = f.light; heavy = f.heavy });
          victim = gives_up e m.victim o.victim;
          named = o.named;
        })

  moves_fit : (runs : Bool) (es : List Entry) (m : Moving) → All (EntryFits n) es → MovingFits m → MovingFits (fold (move_entry runs) m es)
  moves_fit runs [] m a o = o
  moves_fit runs (e ∷ es) m a o = moves_fit runs es (move_entry runs m e) a.1 (move_fits runs m e a.0 o)

  published_fits : (p : Cpu) → CpuFitsInAnyOrder n p → CpuFitsInAnyOrder n (published p)
  published_fits p o = block_fits p o (block_published_weight p.block.total_weight (block_queue_len (length p.queue) p.block)) (record { current = o.current; sched = o.sched; idle = o.idle })

  marked_fits : (p : Cpu) → CpuFitsInAnyOrder n p → CpuFitsInAnyOrder n (mark_stealable p)
  marked_fits p o = block_fits p o (block_stealable (not (is_empty p.queue)) p.block) (record { current = o.current; sched = o.sched; idle = o.idle })

  none_fits : 0 < n → CpuFitsInAnyOrder n no_cpu
  unfolding no_cpu block_of
  none_fits h = record { current = h; sched = h; idle = h; entries = tt; timers = tt; local = tt; ipi = tt; remainder = least _; differ = record { queue = tt; timers = tt } }

  at_fits : 0 < n → (ps : List Cpu) (j : ℕ) → CpusFit n ps → CpuFitsInAnyOrder n (get_or ps j no_cpu)
  at_fits h [] j a = none_fits h
  at_fits h (p ∷ ps) zero a = a.0
  at_fits h (p ∷ ps) (suc j) a = at_fits h ps j a.1

-- the state after the stealing, every CPU, and who won
pub record StealingFits (n : ℕ) (l : Stealing) : Type 0 where
  pub state : StateFits n l.state
  pub cpus : CpusFit n l.cpus
  pub named : Named n l.winner

module _ {n : ℕ} (k : ℕ) (runs : Bool) (locked : List ℕ) where
  entries_fit : (l : Stealing) (t : ℕ) (v : Cpu) (es : List Entry) → StealingFits n l → CpuFitsInAnyOrder n v → All (EntryFits n) es → StealingFits n (steal_entries runs l t v es)
  unfolding steal_entries
  entries_fit l t v [] o f a = o
  entries_fit l t v (e ∷ es) o f a =
      let m : Moving = fold (move_entry runs) (record { state = l.state; victim = v; winner = l.winner }) (e ∷ es) in
      let z : MovingFits n m = moves_fit n runs (e ∷ es) (record { state = l.state; victim = v; winner = l.winner }) a (record { state = o.state; victim = f; named = o.named }) in
      record {
        state = record { contexts = z.state.contexts; context = z.state.context; cpu = published_fits n m.state.cpu z.state.cpu };
        cpus = all_set (CpuFitsInAnyOrder n) l.cpus t (mark_stealable (published m.victim)) o.cpus (marked_fits n (published m.victim) (published_fits n m.victim z.victim));
        named = z.named;
      }

  from_fits : (l : Stealing) (t : ℕ) → StealingFits n l → StealingFits n (steal_from k runs locked l t)
  unfolding steal_from
  from_fits l t o =
      let h : 0 < n = let g : l.state.cpu.block.current_ctxt < n = o.state.cpu.current in omega arith in
      let v : Cpu = get_or l.cpus t no_cpu in
      let f : CpuFitsInAnyOrder n v = at_fits n h l.cpus t o.cpus in
      pick (StealingFits n) (l.done || not (can_steal_from l.state v)) (λ e. o)
      (λ e.
      entries_fit l t v (candidates k locked l.state.contexts l.winner (want l.state v) v.queue) o f
      (candidates_each k locked l.state.contexts l.winner (want l.state v) (EntryFits n) v.queue f.entries))

  all_fit : (ts : List ℕ) (l : Stealing) → StealingFits n l → StealingFits n (fold (steal_from k runs locked) l ts)
  all_fit [] l o = o
  all_fit (t ∷ ts) l o = all_fit ts (steal_from k runs locked l t) (from_fits l t o)

  pub steal_fits : (cpus : List Cpu) (w : Option ℕ) (s : State) → CpusFit n cpus → ((x : ℕ) → w ≡ Some x → x < n) → StateFits n s → StealingFits n (steal k runs locked cpus w s)
  unfolding steal
  steal_fits cpus w s a b f =
      let l : Stealing = record { state = on_cpu count_steal s; cpus = cpus; winner = w; done = false } in
      let o : StealingFits n l = record { state = block_changed s f (block_steal_counter ((s.cpu.block.steal_counter + 1) % word_range) s.cpu.block) (record { current = f.cpu.current; sched = f.cpu.sched; idle = f.cpu.idle }); cpus = a; named = b } in
      pick (StealingFits n) (should_steal s w) (λ e. all_fit (targets k (length cpus)) l o) (λ e. o)
