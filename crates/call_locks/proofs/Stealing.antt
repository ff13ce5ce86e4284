-- Stealing stays with the contexts that the CPU names and those that are queued on any CPU. Assumes nothing.
use Rattle.std.specs.Prelude.{Option, Some}
use mathlib.Core.Path.{◌≡◌, refl, ap, ◌∙◌}
use mathlib.Core.Bool.{Bool, false, not, ◌&&◌, ◌||◌}
use mathlib.Core.List.{List, [], ◌∷◌}
use Prim.Native.Nat.{ℕ, zero, suc, ◌+◌}
use lib.Dec.{ltb}
use lib.ListN.{length, get_or, set}
use Rattle.columns.specs.Common.{fold, All}
use Rattle.context.specs.declared.Context.{Context}
use Rattle.context.specs.Key.{with_new_key, entry_of}
use Rattle.entries.specs.declared.Entry.{Entry}
use Rattle.entries.specs.Queue.{keyed}
use Rattle.entries.specs.Order.{entry_before}
use Rattle.percpu.specs.Cpu.{Cpu}
use Rattle.percpu.specs.With.{cpu_total_weight}
use Rattle.machine.specs.Machine.{no_cpu}
use Rattle.model.specs.State.{State, at, put_context, on_cpu, insert_entry}
use Rattle.model.specs.Steal.{Stealing, Moving, moved, first_wins, give_up, move_entry, after_moving, steal_entries, steal_from, steal, can_steal_from, want, can_be_stolen, take_candidate, candidates, should_steal, count_steal, targets}
use Rattle.model.proofs.Cases.{pick}
use Rattle.model.proofs.Sorted.{all_remove}
use Rattle.model_local.specs.Local.{with_others, others}
use Rattle.model_local.proofs.Others.{branch, all_append, fold_through, fold_holds, others_at, at_others, put_others}
use Rattle.model_local.proofs.Owned.{Owns, OfEntry, with_record, with_entry}
use Rattle.model_local.proofs.Choosing.{Won}
use Rattle.model_local.proofs.Ending.{stealing_others}

-- what holds of every item, and past the end, holds of any; and of all where one is stored
module _ {A : Type 0} (P : A → Type 0) where
  all_get : (d : A) → P d → (l : List A) → All P l → (i : ℕ) → P (get_or l i d)
  all_get d p [] h i = p
  all_get d p (x ∷ xs) h zero = h.0
  all_get d p (x ∷ xs) h (suc i) = all_get d p xs h.1 i

  all_set : (l : List A) (i : ℕ) (a : A) → P a → All P l → All P (set l i a)
  all_set [] i a p h = tt
  all_set (x ∷ xs) zero a p h = (p, h.1)
  all_set (x ∷ xs) (suc i) a p h = (h.0, all_set xs i a p h.1)

all_any : {A : Type 0} (l : List A) → All (λ (a : A). Unit {0}) l
all_any [] = tt
all_any (x ∷ xs) = (tt, all_any xs)

-- two steps that agree on every item of a list
fold_same : {A B : Type 0} (P : A → Type 0) (f g : B → A → B) → ((b : B) (a : A) → P a → f b a ≡ g b a) → (l : List A) → All P l → (b : B) → fold f b l ≡ fold g b l
fold_same P f g e [] h b = refl
fold_same P f g e (x ∷ xs) h b = ap (λ z. fold f z xs) (e b x h.0) ∙ fold_same P f g e xs h.1 (g b x)

module _ (S : ℕ → Bool) (n : ℕ) where
  -- a CPU whose queue is of the set
  abbrev pub QueuedWithin : Cpu → Type 0
  QueuedWithin p = All (OfEntry S n) p.queue

  record MovingOwns (m : Moving) : Type 0 where
    state : Owns S n m.state
    victim : QueuedWithin m.victim
    winner : Won S m.winner

  pub record StealOwns (l : Stealing) : Type 0 where
    pub state : Owns S n l.state
    pub cpus : All QueuedWithin l.cpus
    pub winner : Won S l.winner

  candidates_own : (k : ℕ) (locked : List ℕ) (cs : List Context) (w : Option ℕ) (m : ℕ) (q : List Entry) → All (OfEntry S n) q → All (OfEntry S n) (candidates k locked cs w m q)
  unfolding candidates
  candidates_own k locked cs w m q h =
      fold_holds (OfEntry S n) (All (OfEntry S n)) (λ u. u) (take_candidate k locked cs w m) (λ got e t o. refl)
      (λ got e t o. pick (All (OfEntry S n)) (ltb (length got) m && can_be_stolen k locked cs w got e) (λ y. all_append (OfEntry S n) got (e ∷ []) o (t, tt)) (λ y. o)) q h [] tt

  module _ (runs : Bool) where
    move_owns : (m : Moving) (e : Entry) → OfEntry S n e → MovingOwns m → MovingOwns (move_entry runs m e)
    unfolding move_entry
    move_owns m e t o =
        let x = e.context_ref in
        let c = moved m.state.cpu.block.v m.victim.block.v e.weight (at m.state x) in
        let v : QueuedWithin (give_up e m.victim) = all_remove entry_before (OfEntry S n) (keyed e.key) m.victim.queue o.victim in
        pick MovingOwns (first_wins runs m.winner) (λ y. record { state = with_record S n x c o.state; victim = v; winner = t })
        (λ y. record { state = with_entry S n (entry_of x e.weight c) t (with_record S n x (with_new_key c) o.state); victim = v; winner = o.winner })

    entries_own : (l : Stealing) (t : ℕ) (v : Cpu) (es : List Entry) → All (OfEntry S n) es → QueuedWithin v → StealOwns l → StealOwns (steal_entries runs l t v es)
    unfolding steal_entries
    entries_own l t v [] h q o = o
    entries_own l t v (e ∷ es) h q o =
        let m : Moving = record { state = l.state; victim = v; winner = l.winner } in
        let r : MovingOwns (fold (move_entry runs) m (e ∷ es)) =
        fold_holds (OfEntry S n) MovingOwns (λ u. u) (move_entry runs) (λ b a p q. refl) move_owns (e ∷ es) h m (record { state = o.state; victim = q; winner = o.winner }) in
        record { state = r.state; cpus = all_set QueuedWithin l.cpus t _ r.victim o.cpus; winner = r.winner }

    module _ (k : ℕ) (locked : List ℕ) where
      victim_within : (l : Stealing) (t : ℕ) → StealOwns l → QueuedWithin (get_or l.cpus t no_cpu)
      unfolding no_cpu
      victim_within l t o = all_get QueuedWithin no_cpu tt l.cpus o.cpus t

      from_owns : (l : Stealing) (t : ℕ) → StealOwns l → StealOwns (steal_from k runs locked l t)
      unfolding steal_from
      from_owns l t o =
          let v = get_or l.cpus t no_cpu in
          let h = victim_within l t o in
          pick StealOwns (l.done || not (can_steal_from l.state v)) (λ y. o)
          (λ y. entries_own l t v (candidates k locked l.state.contexts l.winner (want l.state v) v.queue) (candidates_own k locked l.state.contexts l.winner (want l.state v) v.queue h) h o)

      pub steal_owns : (cpus : List Cpu) (w : Option ℕ) (s : State) → Owns S n s → All QueuedWithin cpus → Won S w → StealOwns (steal k runs locked cpus w s)
      unfolding steal
      steal_owns cpus w s o q t =
          let l : Stealing = record { state = on_cpu count_steal s; cpus = cpus; winner = w; done = false } in
          let b : StealOwns l = record { state = o; cpus = q; winner = t } in
          pick StealOwns (should_steal s w)
          (λ y. fold_holds (λ (i : ℕ). Unit {0}) StealOwns (λ u. u) (steal_from k runs locked) (λ u i p r. refl) (λ u i p r. from_owns u i r) (targets k (length cpus)) (all_any (targets k (length cpus))) l b)
          (λ y. b)

-- the same with other contexts outside the set
module _ (S : ℕ → Bool) (n : ℕ) (ds : List Context) where
  abbrev G : State → State
  G = others S ds

  abbrev moving_others : Moving → Moving
  moving_others m = record { state = G m.state; victim = m.victim; winner = m.winner }

  abbrev K : Stealing → Stealing
  K = stealing_others S n ds

  taken_same : (k : ℕ) (locked : List ℕ) (cs : List Context) (w : Option ℕ) (m : ℕ) (got : List Entry) (e : Entry) → OfEntry S n e
      → take_candidate k locked (with_others S ds cs) w m got e ≡ take_candidate k locked cs w m got e
  unfolding can_be_stolen
  taken_same k locked cs w m got e t = rw (others_at S ds cs e.context_ref t)

  candidates_same : (k : ℕ) (locked : List ℕ) (cs : List Context) (w : Option ℕ) (m : ℕ) (q : List Entry) → All (OfEntry S n) q
      → candidates k locked (with_others S ds cs) w m q ≡ candidates k locked cs w m q
  unfolding candidates
  candidates_same k locked cs w m q h =
      fold_same (OfEntry S n) (take_candidate k locked (with_others S ds cs) w m) (take_candidate k locked cs w m) (λ got e t. taken_same k locked cs w m got e t) q h []

  module _ (runs : Bool) where
    move_moves : (m : Moving) (e : Entry) → OfEntry S n e → move_entry runs (moving_others m) e ≡ moving_others (move_entry runs m e)
    unfolding move_entry
    move_moves m e t =
        let x = e.context_ref in
        let c = moved m.state.cpu.block.v m.victim.block.v e.weight (at m.state x) in
        let s = on_cpu (λ p. cpu_total_weight (p.block.total_weight + e.weight) p) m.state in
        rw (at_others S ds m.state x t)
        (branch moving_others (first_wins runs m.winner)
        {x = record { state = put_context x c s; victim = give_up e m.victim; winner = Some x }}
        {y = record { state = insert_entry (entry_of x e.weight c) (put_context x (with_new_key c) s); victim = give_up e m.victim; winner = m.winner }}
        (λ j. record { state = put_others S ds s x t c j; victim = give_up e m.victim; winner = Some x })
        (λ j. record { state = insert_entry (entry_of x e.weight c) (put_others S ds s x t (with_new_key c) j); victim = give_up e m.victim; winner = m.winner }))

    entries_move : (l : Stealing) (t : ℕ) (v : Cpu) (es : List Entry) → All (OfEntry S n) es → QueuedWithin S n v → StealOwns S n l
        → steal_entries runs (K l) t v es ≡ K (steal_entries runs l t v es)
    unfolding steal_entries
    entries_move l t v [] h q o = refl
    entries_move l t v (e ∷ es) h q o =
        let m : Moving = record { state = l.state; victim = v; winner = l.winner } in
        ap (after_moving t l.cpus)
        (fold_through (OfEntry S n) (MovingOwns S n) moving_others (move_entry runs) (λ b a p q. move_moves b a p) (move_owns S n runs) (e ∷ es) h m
        (record { state = o.state; victim = q; winner = o.winner }))

    module _ (k : ℕ) (locked : List ℕ) where
      from_moves : (l : Stealing) (t : ℕ) → StealOwns S n l → steal_from k runs locked (K l) t ≡ K (steal_from k runs locked l t)
      unfolding steal_from can_steal_from want
      from_moves l t o =
          let v = get_or l.cpus t no_cpu in
          let h = victim_within S n runs k locked l t o in
          let cs = l.state.contexts in
          branch K (l.done || not (can_steal_from l.state v)) refl
          (ap (steal_entries runs (K l) t v) (candidates_same k locked cs l.winner (want l.state v) v.queue h)
          ∙ entries_move l t v (candidates k locked cs l.winner (want l.state v) v.queue) (candidates_own S n k locked cs l.winner (want l.state v) v.queue h) h o)

      pub steal_moves : (cpus : List Cpu) (w : Option ℕ) (s : State) → Owns S n s → All (QueuedWithin S n) cpus → Won S w
          → steal k runs locked cpus w (G s) ≡ K (steal k runs locked cpus w s)
      unfolding steal
      steal_moves cpus w s o q t =
          let l : Stealing = record { state = on_cpu count_steal s; cpus = cpus; winner = w; done = false } in
          branch K (should_steal s w)
          (fold_through (λ (i : ℕ). Unit {0}) (StealOwns S n) K (steal_from k runs locked) (λ u i p r. from_moves u i r) (λ u i p r. from_owns S n runs k locked u i r)
          (targets k (length cpus)) (all_any (targets k (length cpus))) l (record { state = o; cpus = q; winner = t }))
          refl
