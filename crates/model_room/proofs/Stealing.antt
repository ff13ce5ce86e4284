-- Stealing always finds room: it takes no more entries than the victim has over this CPU's load. Assumes nothing.
use Rattle.std.specs.Prelude.{if◌then◌else◌, Option}
use mathlib.Core.Path.{◌≡◌, refl, sym, subst}
use mathlib.Core.Bool.{Bool, true, false, not, ◌&&◌, ◌||◌}
use mathlib.Core.List.{List, [], ◌∷◌}
use Prim.Native.Nat.{ℕ, ◌+◌, ◌≤◌, ◌<◌}
use native.Mathlib.Omega.{arith}
use lib.Dec.{ltb, leb}
use lib.ListN.{length, get_or, length-append}
use borrow.Author.Tests.{ltb-true, leb-true}
use Rattle.columns.specs.Common.{fold}
use Rattle.context.specs.declared.Context.{Context}
use Rattle.entries.specs.declared.Entry.{Entry}
use Rattle.percpu.specs.Cpu.{Cpu}
use Rattle.percpu.specs.With.{cpu_total_weight}
use Rattle.machine.specs.Machine.{no_cpu}
use Rattle.model.specs.State.{State, at, on_cpu, put_context, is_idle}
use Rattle.model.specs.Steal.{
  Stealing,
  Moving,
  my_load,
  can_steal_from,
  want,
  can_be_stolen,
  take_candidate,
  candidates,
  count_steal,
  should_steal,
  targets,
  moved,
  first_wins,
  move_entry,
  steal_entries,
  steal_from,
  steal,
}
use Rattle.model.proofs.Cases.{by_test, pick, and_both, or_neither, not_is_false, never}
use Rattle.model.proofs.Lists.{fold_keeps}
use Rattle.model_room.proofs.Within.{Within, weaker, entry_inserted}
use Rattle.context.specs.Key.{with_new_key, entry_of}

-- no more candidates than wanted
module _ (k : ℕ) (locked : List ℕ) (cs : List Context) (w : Option ℕ) (n : ℕ) where
  candidate_few : (got : List Entry) (e : Entry) → length got ≤ n → length (take_candidate k locked cs w n got e) ≤ n
  candidate_few got e h =
      pick (λ (l : List Entry). length l ≤ n) (ltb (length got) n && can_be_stolen k locked cs w got e)
      (λ t. let g : length got < n = ltb-true _ _ (and_both (ltb (length got) n) _ t).0 in rw length-append (omega arith)) (λ t. h)

  pub candidates_few : (q : List Entry) → length (candidates k locked cs w n q) ≤ n
  unfolding candidates
  candidates_few q = fold_keeps (λ (l : List Entry). length l ≤ n) (take_candidate k locked cs w n) candidate_few [] q (omega arith)

-- this CPU's load after the stealing is at most the victim's length before it
want_few : (s : State) (v : Cpu) → can_steal_from s v ≡ true → my_load s + want s v ≤ length v.queue
unfolding can_steal_from want
want_few s v h =
    let g : my_load s + 2 ≤ length v.queue + 1 =
    leb-true _ _
    (and_both (v.block.present && v.block.stealable && leb (my_load s + 2) (v.block.queue_len + 1) && not v.block.queue_locked) _ h).1
    in let one : (if is_idle s then 0 else 1) ≤ 1 = pick (λ (n : ℕ). n ≤ 1) (is_idle s) (λ t. omega arith) (λ t. omega arith)
    in omega arith

-- each entry moved lengthens the queue by at most one
move_within : {q t l : ℕ} (runs : Bool) (m : Moving) (e : Entry) → q < 64 → Within q t l m.state → Within (q + 1) t l (move_entry runs m e).state
unfolding move_entry
move_within {q} {t} {l} runs m e r h =
    let x : ℕ = e.context_ref in
    let c : Context = moved m.state.cpu.block.v m.victim.block.v e.weight (at m.state x) in
    let s : State = on_cpu (λ p. cpu_total_weight (p.block.total_weight + e.weight) p) m.state in
    pick (λ (u : Moving). Within (q + 1) t l u.state) (first_wins runs m.winner) (λ z. weaker (omega arith) (omega arith) (omega arith) h)
    (λ z. entry_inserted {q = q} {t = t} {l = l} (put_context x (with_new_key c) s) h (entry_of x e.weight c) r)

moves_within : {q t l : ℕ} (runs : Bool) (m : Moving) (es : List Entry) → q + length es ≤ 64 → Within q t l m.state → Within (q + length es) t l (fold (move_entry runs) m es).state
moves_within runs m [] r h = weaker (omega arith) (omega arith) (omega arith) h
moves_within {q = q} {t = t} {l = l} runs m (e ∷ es) r h =
    weaker (omega arith) (omega arith) (omega arith) (moves_within {q = q + 1} {t = t} {l = l} runs (move_entry runs m e) es (omega arith) (move_within runs m e (omega arith) h))

-- q: 64, or 63 where the holder, which is not idle, counts in the load
module _ {q t l : ℕ} (k : ℕ) (runs : Bool) (locked : List ℕ) (cpus : List Cpu) (w : Option ℕ) (s : State) (each : (i : ℕ) → length (get_or cpus i no_cpu).queue ≤ 64)
    (most : q ≤ 64) (least : 64 ≤ q + (if is_idle s then 0 else 1)) (h : Within q t l s) where
  abbrev start : Stealing
  start = record { state = on_cpu count_steal s; cpus = cpus; winner = w; done = false }

  abbrev Steals : Stealing → Type 0
  Steals u = (u.done ≡ false → u ≡ start) × Within q t l u.state

  entries_within : (i : ℕ) (v : Cpu) (es : List Entry) → length s.cpu.queue + length es ≤ q → Steals (steal_entries runs start i v es)
  unfolding steal_entries
  entries_within i v [] r = (λ z. refl, h)
  entries_within i v (e ∷ es) r =
      let m : Moving = record { state = start.state; victim = v; winner = w } in
      let g : Within (length s.cpu.queue) t l m.state = record { room = h.room; queue = omega arith; timers = h.timers; local = h.local } in
      (λ z. never {b = true} refl z, weaker r (omega arith) (omega arith) (moves_within runs m (e ∷ es) (omega arith) g))

  from_start : (i : ℕ) → Steals (steal_from k runs locked start i)
  unfolding steal_from
  from_start i =
      let v : Cpu = get_or cpus i no_cpu in
      let n = candidates_few k locked s.contexts w (want start.state v) v.queue in
      pick Steals (not (can_steal_from start.state v)) (λ z. (λ y. refl, h))
      (λ z. let f = want_few start.state v (not_is_false _ z) in
      entries_within i v _ (omega (arith, each i)))

  done_within : (u : Stealing) (i : ℕ) → Steals u → u.done ≡ true → Steals (steal_from k runs locked u i)
  unfolding steal_from
  done_within u i h z =
      pick Steals (u.done || not (can_steal_from u.state (get_or u.cpus i no_cpu))) (λ y. h) (λ y. never z (or_neither u.done _ y).0)

  from_within : (u : Stealing) (i : ℕ) → Steals u → Steals (steal_from k runs locked u i)
  from_within u i h = by_test u.done (done_within u i h) (λ z. subst (λ (y : Stealing). Steals (steal_from k runs locked y i)) (sym (h.0 z)) (from_start i))

  pub steal_within : Within q t l (steal k runs locked cpus w s).state
  unfolding steal
  steal_within =
      (pick Steals (should_steal s w) (λ z. fold_keeps Steals (steal_from k runs locked) from_within start (targets k (length cpus)) (λ y. refl, h)) (λ z. (λ y. refl, h))).1

-- whatever the queue's length, a stealing never finds it full
pub steal_room : {t l : ℕ} (k : ℕ) (runs : Bool) (locked : List ℕ) (cpus : List Cpu) (w : Option ℕ) (s : State) → ((i : ℕ) → length (get_or cpus i no_cpu).queue ≤ 64)
    → Within 64 t l s → Within 64 t l (steal k runs locked cpus w s).state
steal_room k runs locked cpus w s each h = steal_within k runs locked cpus w s each (omega arith) (omega arith) h

-- and it leaves a place for a holder that is not idle
pub steal_leaves_place : {t l : ℕ} (k : ℕ) (runs : Bool) (locked : List ℕ) (cpus : List Cpu) (w : Option ℕ) (s : State) → ((i : ℕ) → length (get_or cpus i no_cpu).queue ≤ 64)
    → is_idle s ≡ false → Within 63 t l s → Within 63 t l (steal k runs locked cpus w s).state
steal_leaves_place k runs locked cpus w s each e h = steal_within k runs locked cpus w s each (omega arith) (rw e (omega arith)) h
