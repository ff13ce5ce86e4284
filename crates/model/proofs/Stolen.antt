-- Work stealing: nothing is stolen, or entries of one other CPU are.
use Rattle.std.specs.Prelude.{Option, Some}
use mathlib.Core.Path.{◌≡◌, refl, subst, sym}
use mathlib.Core.Bool.{Bool, true, false, not, ◌||◌}
use mathlib.Core.List.{List, [], ◌∷◌}
use mathlib.Core.Logic.{◌≢◌}
use Prim.Native.Nat.{ℕ, ◌<◌}
use lib.ListN.{length, get_or}
use borrow.Author.Tests.{ne_eqb}
use Rattle.entries.specs.declared.Entry.{Entry}
use Rattle.entries.specs.Order.{entry_before}
use Rattle.machine.specs.Machine.{Machine, context_at, cpu_at, no_cpu}
use Rattle.model.specs.State.{State}
use Rattle.columns.specs.Common.{fold}
use Rattle.model.specs.Steal.{Stealing, move_entry, after_moving, should_steal, targets, can_steal_from, want, steal_entries, steal_from, steal}
use Rattle.model.proofs.Cases.{never, pick, or_neither, not_is_false}
use Rattle.model.proofs.Lists.{In, fold_keeps_in}
use Rattle.model.proofs.Sorted.{Sorted}
use Rattle.model.proofs.Queues.{Inv, on}
use Rattle.model.proofs.Before.{queues, Free}
use Rattle.model.proofs.Dequeued.{Winner}
use Rattle.model.proofs.Candidates.{candidates_taking, candidates_in, target_is_other}
use Rattle.model.proofs.CpuQueues.{stealable_present}
use Rattle.model.proofs.Robbed.{start, Kept, StealResult, nothing, robbed, start_kept, result_after}

module _ (k : ℕ) (M : Machine) (runs : Bool) (locked : List ℕ) (w : Option ℕ) (C : State) where
  abbrev begin : Stealing
  begin = start k M runs locked w C

  -- entries of CPU t that can be stolen, e the first
  pub record Lot (t : ℕ) (e : Entry) (es : List Entry) : Type 0 where
    pub other : t ≢ k
    pub present : (get_or M.cpus t no_cpu).block.present ≡ true
    pub sorted : Sorted entry_before (e ∷ es)
    pub from : (d : Entry) → In d (e ∷ es) → In d (queues M t)
    pub live : (d : Entry) → In d (e ∷ es) → (context_at C.contexts d.context_ref).gone ≡ false

  -- after they are moved
  abbrev pub robbing : ℕ → Entry → List Entry → Stealing
  robbing t e es = after_moving t M.cpus (fold (move_entry runs) (record { state = begin.state; victim = get_or M.cpus t no_cpu; winner = w }) (e ∷ es))

  abbrev Results : Stealing → Type 0
  Results x = StealResult k M runs locked w C x

  module _ (n : Inv (Free M) M.contexts C.contexts (on k C.cpu.queue (queues M)))
      (win : (x : ℕ) → w ≡ Some x → Winner (Free M) M.contexts k (queues M) x C.contexts (on k C.cpu.queue (queues M))) where
    -- what is proved where nothing is stolen, and where a lot of entries of one CPU is moved, holds after stealing
    module _ (P : Stealing → Type 0) (base : P begin) (lot : (t : ℕ) (e : Entry) (es : List Entry) → Lot t e es → P (robbing t e es)) where
      data Tried (l : Stealing) : Type 0 where
        untouched : l ≡ begin → Tried l
        moved : l.done ≡ true → P l → Tried l

      tried_entries : (t : ℕ) → t ≢ k → (get_or M.cpus t no_cpu).block.present ≡ true → (es : List Entry) → Sorted entry_before es
          → ((d : Entry) → In d es → In d (queues M t)) → ((d : Entry) → In d es → (context_at C.contexts d.context_ref).gone ≡ false)
          → Tried (steal_entries runs begin t (get_or M.cpus t no_cpu) es)
      unfolding steal_entries
      tried_entries t o pr [] s f l = untouched refl
      tried_entries t o pr (e ∷ es) s f l = moved refl (lot t e es (record { other = o; present = pr; sorted = s; from = f; live = l }))

      tried_start : (t : ℕ) → t ≢ k → Tried (steal_from k runs locked begin t)
      unfolding steal_from cpu_at
      tried_start t o =
          pick Tried (begin.done || not (can_steal_from begin.state (get_or M.cpus t no_cpu))) (λ u. untouched refl)
          (λ u. let pr = stealable_present begin.state (get_or M.cpus t no_cpu) (not_is_false _ u) in
          let so : Sorted entry_before (get_or M.cpus t no_cpu).queue = rw (ne_eqb t k o) at (n.sorted t) in
          let ta = candidates_taking k locked C.contexts w (want begin.state (get_or M.cpus t no_cpu)) (get_or M.cpus t no_cpu).queue so in
          tried_entries t o pr _ ta.sorted
          (candidates_in k locked C.contexts w (want begin.state (get_or M.cpus t no_cpu)) (get_or M.cpus t no_cpu).queue) ta.alive)

      tried_step : (l : Stealing) (t : ℕ) → t ≢ k → Tried l → Tried (steal_from k runs locked l t)
      unfolding steal_from
      tried_step l t o (untouched p) = subst (λ z. Tried (steal_from k runs locked z t)) (sym p) (tried_start t o)
      tried_step l t o (moved d p) =
          pick Tried (l.done || not (can_steal_from l.state (get_or l.cpus t no_cpu))) (λ z. moved d p)
          (λ z. never d (or_neither l.done _ z).0)

      tried : (l : Stealing) → Tried l → P l
      tried l (untouched p) = subst P (sym p) base
      tried l (moved d p) = p

      pub steal_cases : k < length M.cpus → P (steal k runs locked M.cpus w C)
      unfolding steal
      steal_cases r =
          pick P (should_steal C w)
          (λ u. tried _ (fold_keeps_in Tried (steal_from k runs locked) (targets k (length M.cpus))
          (λ l t i b. tried_step l t (target_is_other k (length M.cpus) t r i) b) begin (untouched refl)))
          (λ u. base)

    pub steal_result : k < length M.cpus → Results (steal k runs locked M.cpus w C)
    steal_result = steal_cases Results (nothing refl) (λ t e es b. result_after k M runs locked w C n win t b.other b.present e es b.sorted b.from b.live)

    -- whatever was stolen
    pub result_kept : (l : Stealing) → Results l → (Kept k M runs locked w C) l
    result_kept l (nothing p) = subst (Kept k M runs locked w C) (sym p) (start_kept k M runs locked w C n win)
    result_kept l (robbed d t e es b) = b.kept
