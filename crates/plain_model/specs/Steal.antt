-- Stealing: every other CPU is tried in its turn, and flags say when it is enough. Assumes nothing.
use Rattle.std.specs.Prelude.{Bool, true, false, not, ◌&&◌, ◌||◌, List, [], ◌∷◌, ◌++◌, ℕ, ◌+◌, ◌-◌, ◌%◌, ltb, eqb, length, get_or, set, if◌then◌else◌, Option, Some}
use Rattle.columns.specs.Common.{fold, tabulate}
use Rattle.context.specs.declared.Context.{Context}
use Rattle.context.specs.Status.{is_runnable}
use Rattle.context.specs.Key.{with_new_key, entry_of}
use Rattle.cpu_set.specs.Set.{contains}
use Rattle.entries.specs.declared.Entry.{Entry}
use Rattle.entries.specs.Order.{entry_before}
use Rattle.percpu.specs.Cpu.{Cpu}
use Rattle.percpu.specs.With.{cpu_queue, cpu_total_weight}
use Rattle.machine.specs.Machine.{context_at, no_cpu}
use Rattle.model.specs.State.{State, at, put_context, on_cpu}
use Rattle.model.specs.Steal.{Stealing, Moving, member, contexts_of, should_steal, count_steal, can_steal_from, want, wins, moved, first_wins, published, mark_stealable}
use Rattle.plain_model.specs.Rank.{by_rank}
use Rattle.plain_model.specs.State.{insert_entry, queue_without}

-- of n CPUs, round from the next after k
unfoldable pub targets : ℕ → ℕ → List ℕ
targets k n = tabulate (n - 1) (λ (i : ℕ). (k + (i + 1)) % n)

-- the decision holds the locks of the holder and of the best late entry, of the winner, and of what it steals
abbrev pub is_held : (locked : List ℕ) → Option ℕ → List Entry → ℕ → Bool
is_held locked w got x = member x locked || (wins w x || member x (contexts_of got))

-- k: this CPU; got: the entries taken so far
unfoldable pub can_be_stolen : (k : ℕ) (locked : List ℕ) → List Context → Option ℕ → List Entry → Entry → Bool
can_be_stolen k locked cs w got e =
    let x = e.context_ref in
    let c = context_at cs x in
    not c.gone && eqb c.lock 0 && not (is_held locked w got x)
    && contains c.sched_affinity k && is_runnable c.status && not c.running && not c.currently_scheduled
    && not (eqb c.addr_space 2)

-- the first n in their turns; later ones are looked at and left
abbrev pub take_candidate : (k : ℕ) (locked : List ℕ) → List Context → Option ℕ → ℕ → List Entry → Entry → List Entry
take_candidate k locked cs w n got e = if ltb (length got) n && can_be_stolen k locked cs w got e then got ++ (e ∷ []) else got

unfoldable pub candidates : (k : ℕ) (locked : List ℕ) → List Context → Option ℕ → ℕ → List Entry → List Entry
candidates k locked cs w n q = fold (take_candidate k locked cs w n) [] (by_rank entry_before q)

-- the entry and its weight leave the victim
abbrev pub give_up : Entry → Cpu → Cpu
give_up e v = cpu_queue (queue_without e.key v.queue) (cpu_total_weight (v.block.total_weight - e.weight) v)

-- and come here: the first to win, where nobody else runs
unfoldable pub move_entry : Bool → Moving → Entry → Moving
move_entry runs m e =
    let x = e.context_ref in
    let c = moved m.state.cpu.block.v m.victim.block.v e.weight (at m.state x) in
    let s = on_cpu (λ p. cpu_total_weight (p.block.total_weight + e.weight) p) m.state in
    if first_wins runs m.winner
    then record { state = put_context x c s; victim = give_up e m.victim; winner = Some x }
    else record {
      state = insert_entry (entry_of x e.weight c) (put_context x (with_new_key c) s);
      victim = give_up e m.victim;
      winner = m.winner;
    }

-- a victim that gives nothing up does not count
unfoldable pub steal_entries : Bool → Stealing → ℕ → Cpu → List Entry → Stealing
steal_entries runs l t v [] = l
steal_entries runs l t v (e ∷ es) =
    let m = fold (move_entry runs) (record { state = l.state; victim = v; winner = l.winner }) (e ∷ es) in
    record {
      state = on_cpu published m.state;
      cpus = set l.cpus t (mark_stealable (published m.victim));
      winner = m.winner;
      done = true;
    }

unfoldable pub steal_from : (k : ℕ) (runs : Bool) (locked : List ℕ) → Stealing → ℕ → Stealing
steal_from k runs locked l t =
    let v = get_or l.cpus t no_cpu in
    if l.done || not (can_steal_from l.state v) then l else
    steal_entries runs l t v (candidates k locked l.state.contexts l.winner (want l.state v) v.queue)

unfoldable pub steal : (k : ℕ) (runs : Bool) (locked : List ℕ) → List Cpu → Option ℕ → State → Stealing
steal k runs locked cpus w s =
    let l : Stealing = record { state = on_cpu count_steal s; cpus = cpus; winner = w; done = false } in
    if should_steal s w then fold (steal_from k runs locked) l (targets k (length cpus)) else l
