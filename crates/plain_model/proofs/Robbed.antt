-- Stealing in turns is the kernel's. Assumes nothing.
use Rattle.std.specs.Prelude.{if◌then◌else◌, Option, Some}
use mathlib.Core.Path.{◌≡◌, refl, ap, ◌∙◌}
use mathlib.Core.Bool.{Bool, true, false, not, ◌&&◌, ◌||◌}
use mathlib.Core.List.{List, [], ◌∷◌, map}
use Prim.Native.Nat.{ℕ, zero, suc, ◌+◌}
use lib.Dec.{eqb}
use lib.ListN.{length, get_or, set}
use Rattle.columns.specs.Common.{fold, All}
use Rattle.context.specs.declared.Context.{Context}
use Rattle.context.specs.Key.{with_new_key, entry_of}
use Rattle.entries.specs.declared.Entry.{Entry}
use Rattle.entries.specs.Order.{entry_before}
use Rattle.entries.specs.Queue.{keyed}
use Rattle.entries.proofs.Ordered.{entries_ordered}
use Rattle.percpu.specs.Cpu.{Cpu}
use Rattle.percpu.specs.With.{cpu_total_weight}
use Rattle.machine.specs.Machine.{context_at, no_cpu}
use Rattle.model.specs.State.{State, at, put_context, on_cpu, insert_entry}
use Rattle.model.specs.Steal.{Stealing, Moving, member, wins, contexts_of, should_steal, count_steal, can_steal_from, want, can_be_stolen, take_candidate, candidates, targets, moved, first_wins, give_up, move_entry, published, mark_stealable, after_moving, steal_entries, steal_from, steal}
use Rattle.plain_model.specs.Rank.{by_rank, turns}
use Rattle.plain_model.specs.State as lists
use Rattle.plain_model.specs.State.{placed, placed_cpu, Different}
use Rattle.plain_model.specs.Steal as plain
use Rattle.plain_model.specs.Decision.{placed_stealing}
use Rattle.plain_model.proofs.Ranked.{length_by_rank}
use Rattle.plain_model.proofs.Placing.{leave_out_differs, empty_by_rank}
use Rattle.plain_model.proofs.Places.{Places, by_placed, queue_without_is, put_placed, insert_placed}
use Rattle.plain_model.proofs.Scanned.{fold_same}

-- the CPUs, placed
abbrev pub placed_cpus : List Cpu → List Cpu
placed_cpus ps = map placed_cpu ps

none_placed : no_cpu ≡ placed_cpu no_cpu
unfolding no_cpu by_rank turns
none_placed = refl

pub cpu_placed : (ps : List Cpu) (i : ℕ) → get_or (placed_cpus ps) i no_cpu ≡ placed_cpu (get_or ps i no_cpu)
cpu_placed [] i = none_placed
cpu_placed (p ∷ ps) zero = refl
cpu_placed (p ∷ ps) (suc i) = cpu_placed ps i

pub set_placed : (ps : List Cpu) (i : ℕ) (p : Cpu) → placed_cpus (set ps i p) ≡ set (placed_cpus ps) i (placed_cpu p)
set_placed [] i p = refl
set_placed (q ∷ ps) zero p = refl
set_placed (q ∷ ps) (suc i) p = ap (λ (l : List Cpu). placed_cpu q ∷ l) (set_placed ps i p)

length_placed : (ps : List Cpu) → length (placed_cpus ps) ≡ length ps
length_placed [] = refl
length_placed (p ∷ ps) = ap suc (length_placed ps)

none_different : Different no_cpu
unfolding no_cpu
none_different = record { queue = tt; timers = tt }

pub different_at : (ps : List Cpu) → All Different ps → (i : ℕ) → Different (get_or ps i no_cpu)
different_at [] a i = none_different
different_at (p ∷ ps) a zero = a.0
different_at (p ∷ ps) a (suc i) = different_at ps a.1 i

pub different_set : (ps : List Cpu) (i : ℕ) (p : Cpu) → All Different ps → Different p → All Different (set ps i p)
different_set [] i p a d = tt
different_set (q ∷ ps) zero p a d = (d, a.1)
different_set (q ∷ ps) (suc i) p a d = (a.0, different_set ps i p a.1 d)

-- and so the stealing
pub record Steals (l L : Stealing) : Type 0 where
  pub is : placed_stealing l ≡ L
  pub here : Different l.state.cpu
  pub all : All Different l.cpus

abbrev placed_moving : Moving → Moving
placed_moving m = record { state = placed m.state; victim = placed_cpu m.victim; winner = m.winner }

record Moves (m M : Moving) : Type 0 where
  pub is : placed_moving m ≡ M
  pub here : Different m.state.cpu
  pub there : Different m.victim

joined : {s S : State} {v u : Cpu} (w : Option ℕ) → Places s S → placed_cpu v ≡ u → Different v
    → Moves (record { state = s; victim = v; winner = w }) (record { state = S; victim = u; winner = w })
joined w p q d = record { is = λ i. record { state = p.is i; victim = q i; winner = w }; here = p.differ; there = d }

if_moves : (b : Bool) {x y X Y : Moving} → Moves x X → Moves y Y → Moves (if b then x else y) (if b then X else Y)
if_moves true p q = p
if_moves false p q = q

module _ (e : Entry) (v : Cpu) (d : Different v) where
  give_up_is : placed_cpu (plain.give_up e v) ≡ give_up e (placed_cpu v)
  give_up_is = rw (queue_without_is e.key v.queue d.queue)

  give_up_differs : Different (plain.give_up e v)
  give_up_differs = record { queue = leave_out_differs entries_ordered (keyed e.key) v.queue d.queue; timers = d.timers }

heavier : (n : ℕ) (s : State) → Different s.cpu
    → Places (on_cpu (λ (p : Cpu). cpu_total_weight (p.block.total_weight + n) p) s) (on_cpu (λ (p : Cpu). cpu_total_weight (p.block.total_weight + n) p) (placed s))
heavier n s d = record { is = refl; differ = record { queue = d.queue; timers = d.timers } }

module _ (runs : Bool) (e : Entry) (m : Moving) (d : Different m.state.cpu) (t : Different m.victim) where
  abbrev x : ℕ
  x = e.context_ref

  abbrev c : Context
  c = moved m.state.cpu.block.v m.victim.block.v e.weight (at m.state x)

  stored : (q : Context) → Places (put_context x q (on_cpu (λ (p : Cpu). cpu_total_weight (p.block.total_weight + e.weight) p) m.state))
      (put_context x q (on_cpu (λ (p : Cpu). cpu_total_weight (p.block.total_weight + e.weight) p) (placed m.state)))
  stored q = by_placed (put_context x q) (put_context x q) (λ u h. put_placed u h x q) (heavier e.weight m.state d)

  move_placed : Moves (plain.move_entry runs m e) (move_entry runs (placed_moving m) e)
  unfolding plain.move_entry move_entry
  move_placed =
      let f : Entry = entry_of x e.weight c in
      if_moves (first_wins runs m.winner) (joined (Some x) (stored c) (give_up_is e m.victim t) (give_up_differs e m.victim t))
      (joined m.winner (by_placed (lists.insert_entry f) (insert_entry f) (λ u h. insert_placed u h f) (stored (with_new_key c)))
      (give_up_is e m.victim t) (give_up_differs e m.victim t))

moves_next : (runs : Bool) (e : Entry) {m M : Moving} → Moves m M → Moves (plain.move_entry runs m e) (move_entry runs M e)
moves_next runs e {m} {M} p = rw (← p.is) (move_placed runs e m p.here p.there)

fold_moves : (runs : Bool) (es : List Entry) {m M : Moving} → Moves m M → Moves (fold (plain.move_entry runs) m es) (fold (move_entry runs) M es)
fold_moves runs [] p = p
fold_moves runs (e ∷ es) p = fold_moves runs es (moves_next runs e p)

-- what other CPUs read follows from the lengths
module _ (p : Cpu) where
  pub stealable_is : placed_cpu (mark_stealable p) ≡ mark_stealable (placed_cpu p)
  stealable_is = rw (empty_by_rank entries_ordered p.queue)

  published_is : placed_cpu (published p) ≡ published (placed_cpu p)
  published_is = rw (length_by_rank entries_ordered p.queue)

module _ (s : State) (v : Cpu) where
  can_steal_is : can_steal_from (placed s) (placed_cpu v) ≡ can_steal_from s v
  unfolding can_steal_from
  can_steal_is = rw (length_by_rank entries_ordered s.cpu.queue, length_by_rank entries_ordered v.queue)

  want_is : want (placed s) (placed_cpu v) ≡ want s v
  unfolding want
  want_is = rw (length_by_rank entries_ordered s.cpu.queue, length_by_rank entries_ordered v.queue)

-- no lock of the three is held
free : (r a b c : Bool) → (r && not (a || (b || c))) ≡ (r && not a && not b && not c)
free true true b c = refl
free true false true c = refl
free true false false c = refl
free false a b c = refl

module _ (k : ℕ) (locked : List ℕ) (cs : List Context) (w : Option ℕ) where
  can_be_is : (got : List Entry) (e : Entry) → plain.can_be_stolen k locked cs w got e ≡ can_be_stolen k locked cs w got e
  unfolding plain.can_be_stolen can_be_stolen
  can_be_is got e =
      let q : Context = context_at cs e.context_ref in
      rw (free (not q.gone && eqb q.lock 0) (member e.context_ref locked) (wins w e.context_ref) (member e.context_ref (contexts_of got)))

  candidates_are : (n : ℕ) (q : List Entry) → plain.candidates k locked cs w n q ≡ candidates k locked cs w n (by_rank entry_before q)
  unfolding plain.candidates candidates
  candidates_are n q =
      fold_same (plain.take_candidate k locked cs w n) (take_candidate k locked cs w n) (λ got e. rw (can_be_is got e)) [] (by_rank entry_before q)

targets_are : (k n : ℕ) → plain.targets k n ≡ targets k n
unfolding plain.targets targets
targets_are k n = refl

if_steals : (b : Bool) {x y X Y : Stealing} → Steals x X → Steals y Y → Steals (if b then x else y) (if b then X else Y)
if_steals true p q = p
if_steals false p q = q

-- the robber and the victim after the last entry
module _ (cpus : List Cpu) (t : ℕ) (a : All Different cpus) where
  abbrev robbed : Moving → Stealing
  robbed m = record { state = on_cpu published m.state; cpus = set cpus t (mark_stealable (published m.victim)); winner = m.winner; done = true }

  robbed_placed : (m : Moving) → Different m.state.cpu → Different m.victim → Steals (robbed m) (after_moving t (placed_cpus cpus) (placed_moving m))
  robbed_placed m d h =
      record {
        is =
            λ i.
            record {
              state = record { contexts = m.state.contexts; cpu = published_is m.state.cpu i; no_room = m.state.no_room };
              cpus = (set_placed cpus t (mark_stealable (published m.victim)) ∙ ap (set (placed_cpus cpus) t) (stealable_is (published m.victim) ∙ ap mark_stealable (published_is m.victim))) i;
              winner = m.winner;
              done = true;
            };
        here = record { queue = d.queue; timers = d.timers };
        all = different_set cpus t (mark_stealable (published m.victim)) a (record { queue = h.queue; timers = h.timers });
      }

  after : {m M : Moving} → Moves m M → Steals (robbed m) (after_moving t (placed_cpus cpus) M)
  after {m} {M} p = rw (← p.is) (robbed_placed m p.here p.there)

module _ (runs : Bool) (l : Stealing) (d : Different l.state.cpu) (a : All Different l.cpus) where
  steals : Steals l (placed_stealing l)
  steals = record { is = refl; here = d; all = a }

  entries_placed : (t : ℕ) (v : Cpu) → Different v → (es : List Entry) → Steals (plain.steal_entries runs l t v es) (steal_entries runs (placed_stealing l) t (placed_cpu v) es)
  unfolding plain.steal_entries steal_entries
  entries_placed t v h [] = steals
  entries_placed t v h (e ∷ es) =
      let b : Moves (record { state = l.state; victim = v; winner = l.winner }) (record { state = placed l.state; victim = placed_cpu v; winner = l.winner })
      = record { is = refl; here = d; there = h }
      in after l.cpus t a (fold_moves runs (e ∷ es) b)

  from_placed : (k : ℕ) (locked : List ℕ) (t : ℕ) → Steals (plain.steal_from k runs locked l t) (steal_from k runs locked (placed_stealing l) t)
  unfolding plain.steal_from steal_from
  from_placed k locked t =
      let v : Cpu = get_or l.cpus t no_cpu in
      rw (
        cpu_placed l.cpus t,
        can_steal_is l.state v,
        want_is l.state v,
        ← candidates_are k locked l.state.contexts l.winner (want l.state v) v.queue,
      )
      (if_steals (l.done || not (can_steal_from l.state v)) steals
      (entries_placed t v (different_at l.cpus a t) (plain.candidates k locked l.state.contexts l.winner (want l.state v) v.queue)))

pub steals_next : (k : ℕ) (runs : Bool) (locked : List ℕ) (t : ℕ) {l L : Stealing} → Steals l L → Steals (plain.steal_from k runs locked l t) (steal_from k runs locked L t)
steals_next k runs locked t {l} {L} p = rw (← p.is) (from_placed runs l p.here p.all k locked t)

fold_steals : (k : ℕ) (runs : Bool) (locked ts : List ℕ) {l L : Stealing} → Steals l L → Steals (fold (plain.steal_from k runs locked) l ts) (fold (steal_from k runs locked) L ts)
fold_steals k runs locked [] p = p
fold_steals k runs locked (t ∷ ts) p = fold_steals k runs locked ts (steals_next k runs locked t p)

pub steal_placed : (k : ℕ) (runs : Bool) (locked : List ℕ) (cpus : List Cpu) → All Different cpus → (w : Option ℕ) (s : State) → Different s.cpu
    → Steals (plain.steal k runs locked cpus w s) (steal k runs locked (placed_cpus cpus) w (placed s))
unfolding plain.steal steal
steal_placed k runs locked cpus a w s d =
    rw (length_placed cpus, ← targets_are k (length cpus))
    (if_steals (should_steal s w) (fold_steals k runs locked (plain.targets k (length cpus)) (counted s d)) (counted s d))
  where
    counted : (s : State) → Different s.cpu
        → Steals (record { state = on_cpu count_steal s; cpus = cpus; winner = w; done = false }) (record { state = on_cpu count_steal (placed s); cpus = placed_cpus cpus; winner = w; done = false })
    counted s d = record { is = refl; here = record { queue = d.queue; timers = d.timers }; all = a }
