-- Work stealing from other CPUs. Assumes nothing.
use Rattle.std.specs.Prelude.{Bool, true, false, not, ◌&&◌, ◌||◌, List, [], ◌∷◌, ◌++◌, map, ℕ, ◌+◌, ◌-◌, ◌/◌, ◌%◌, min, max, ltb, leb, eqb, length, get_or, set, if◌then◌else◌, None, Option, Some, is_some}
use Rattle.columns.specs.Common.{fold, is_empty, tabulate}
use Rattle.context.specs.declared.Context.{Context}
use Rattle.context.specs.Status.{is_runnable}
use Rattle.context.specs.With.{with_vtime, with_vd}
use Rattle.cpu_set.specs.Set.{contains}
use Rattle.entries.specs.declared.Entry.{Entry}
use Rattle.entries.specs.Queue.{queue_remove}
use Rattle.percpu.specs.Cpu.{Cpu}
use Rattle.percpu.specs.With.{cpu_queue, cpu_total_weight, cpu_queue_len, cpu_published_weight, cpu_stealable, cpu_steal_counter}
use Rattle.machine.specs.Machine.{context_at, no_cpu}
use Rattle.model.specs.State.{State, at, put_context, on_cpu, insert_entry, is_idle}
use Rattle.numbers.specs.Limits.{word_range}
use Rattle.context.specs.Key.{without_key, with_new_key, entry_of}

-- the state, every CPU (this one as it was), who won, and whether a victim was found
pub record Stealing : Type 0 where
  pub state : State
  pub cpus : List Cpu
  pub winner : Option ℕ
  pub done : Bool

abbrev pub member : ℕ → List ℕ → Bool
member x [] = false
member x (y ∷ ys) = eqb x y || member x ys

abbrev pub contexts_of : List Entry → List ℕ
contexts_of es = map (λ e. e.context_ref) es

-- `STEAL_THRESHOLD`, `STEAL_INTERVAL` and `MAX_STEAL`, and the interval of an idle CPU
abbrev pub steal_threshold : ℕ
steal_threshold = 2

abbrev pub steal_interval : ℕ
steal_interval = 16

abbrev pub idle_steal_interval : ℕ
idle_steal_interval = 2

abbrev pub max_steal : ℕ
max_steal = 2

-- every 2nd counter value if idle is in charge without a winner, else every 16th
abbrev pub steal_interval_of : State → Option ℕ → ℕ
steal_interval_of s w = if is_idle s && not (is_some w) then idle_steal_interval else steal_interval

abbrev pub should_steal : State → Option ℕ → Bool
should_steal s w = eqb (s.cpu.block.steal_counter % steal_interval_of s w) 0

-- the counter wraps
abbrev pub count_steal : Cpu → Cpu
count_steal p = cpu_steal_counter ((p.block.steal_counter + 1) % word_range) p

-- of n CPUs, round from the next after k
unfoldable pub targets : ℕ → ℕ → List ℕ
targets k n = tabulate (n - 1) (λ (i : ℕ). (k + (i + 1)) % n)

abbrev pub my_load : State → ℕ
my_load s = length s.cpu.queue + (if is_idle s then 0 else 1)

-- the length is tested as published, then as it is
unfoldable pub can_steal_from : State → Cpu → Bool
can_steal_from s v =
    v.block.present && v.block.stealable && leb (my_load s + steal_threshold) (v.block.queue_len + 1) && not v.block.queue_locked
    && leb (my_load s + steal_threshold) (length v.queue + 1)

unfoldable pub want : State → Cpu → ℕ
want s v = max 1 (min max_steal ((length v.queue - length s.cpu.queue) / 2))

abbrev pub wins : Option ℕ → ℕ → Bool
wins None x = false
wins (Some y) x = eqb x y

-- k: this CPU; locked: the contexts that the decision keeps locked, the winner aside; got: the entries found so far
unfoldable pub can_be_stolen : (k : ℕ) (locked : List ℕ) → List Context → Option ℕ → List Entry → Entry → Bool
can_be_stolen k locked cs w got e =
    let x = e.context_ref in
    let c = context_at cs x in
    not c.gone && eqb c.lock 0 && not (member x locked) && not (wins w x) && not (member x (contexts_of got))
    && contains c.sched_affinity k && is_runnable c.status && not c.running && not c.currently_scheduled
    && not (eqb c.addr_space 2)

-- the first entries that can be stolen, as many as wanted
abbrev pub take_candidate : (k : ℕ) (locked : List ℕ) → List Context → Option ℕ → ℕ → List Entry → Entry → List Entry
take_candidate k locked cs w n got e = if ltb (length got) n && can_be_stolen k locked cs w got e then got ++ (e ∷ []) else got

unfoldable pub candidates : (k : ℕ) (locked : List ℕ) → List Context → Option ℕ → ℕ → List Entry → List Entry
candidates k locked cs w n q = fold (take_candidate k locked cs w n) [] q

-- a stolen record: as far from V here as it was from V there, a deadline by the slice that it has left
abbrev pub moved : (v_here v-there weight : ℕ) → Context → Context
moved v_here v-there weight c =
    let vtime = v_here + c.vtime - v-there in
    without_key (with_vtime vtime (with_vd (vtime + c.rem_slice / weight) c))

pub record Moving : Type 0 where
  pub state : State
  pub victim : Cpu
  pub winner : Option ℕ

-- the first stolen wins where there is neither winner nor runnable holder
abbrev pub first_wins : Bool → Option ℕ → Bool
first_wins runs w = not (is_some w) && not runs

abbrev pub give_up : Entry → Cpu → Cpu
give_up e v = cpu_queue (queue_remove e.key v.queue) (cpu_total_weight (v.block.total_weight - e.weight) v)

unfoldable pub move_entry : Bool → Moving → Entry → Moving
move_entry runs m e =
    let x = e.context_ref in
    let c = moved m.state.cpu.block.v m.victim.block.v e.weight (at m.state x) in
    let s = on_cpu (λ p. cpu_total_weight (p.block.total_weight + e.weight) p) m.state in
    if first_wins runs m.winner
    then record { state = put_context x c s; victim = give_up e m.victim; winner = Some x }
    else record {
      state = insert_entry (entry_of x e.weight c) (put_context x (with_new_key c) s);
      victim = give_up e m.victim;
      winner = m.winner;
    }

-- what other CPUs read
abbrev pub published : Cpu → Cpu
published p = cpu_published_weight p.block.total_weight (cpu_queue_len (length p.queue) p)

abbrev pub mark_stealable : Cpu → Cpu
mark_stealable p = cpu_stealable (not (is_empty p.queue)) p

abbrev pub after_moving : ℕ → List Cpu → Moving → Stealing
after_moving t cpus m =
    record {
      state = on_cpu published m.state;
      cpus = set cpus t (mark_stealable (published m.victim));
      winner = m.winner;
      done = true;
    }

-- nothing can be stolen: on to the next CPU
unfoldable pub steal_entries : Bool → Stealing → ℕ → Cpu → List Entry → Stealing
steal_entries runs l t v [] = l
steal_entries runs l t v (e ∷ es) =
    after_moving t l.cpus (fold (move_entry runs) (record { state = l.state; victim = v; winner = l.winner }) (e ∷ es))

unfoldable pub steal_from : (k : ℕ) (runs : Bool) (locked : List ℕ) → Stealing → ℕ → Stealing
steal_from k runs locked l t =
    let v = get_or l.cpus t no_cpu in
    if l.done || not (can_steal_from l.state v) then l else
    steal_entries runs l t v (candidates k locked l.state.contexts l.winner (want l.state v) v.queue)

unfoldable pub steal : (k : ℕ) (runs : Bool) (locked : List ℕ) → List Cpu → Option ℕ → State → Stealing
steal k runs locked cpus w s =
    let l : Stealing = record { state = on_cpu count_steal s; cpus = cpus; winner = w; done = false } in
    if should_steal s w then fold (steal_from k runs locked) l (targets k (length cpus)) else l
