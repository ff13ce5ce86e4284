-- Entries of one other CPU are moved here: their weight leaves its total and enters this one.
use Rattle.std.specs.Prelude.{None, Option, Some}
use mathlib.Core.Path.{◌≡◌, refl, subst, sym, ap, ◌∙◌}
use mathlib.Core.Bool.{Bool, true, false}
use mathlib.Core.List.{List, [], ◌∷◌}
use mathlib.Core.Logic.{◌⊎◌, inl, inr, ◌≢◌}
use Prim.Native.Nat.{ℕ, ◌+◌, ◌-◌, ◌<◌}
use native.Mathlib.Omega.{arith}
use lib.ListN.{length, set}
use borrow.Author.Tests.{eq-eqb, ne_eqb}
use Rattle.columns.specs.Common.{fold}
use Rattle.context.specs.declared.Context.{Context}
use Rattle.context.specs.Key.{with_new_key, entry_of}
use Rattle.entries.specs.declared.Entry.{Entry}
use Rattle.entries.specs.Queue.{queue_insert, queue_remove}
use Rattle.machine.specs.Machine.{Machine, context_at, cpu_at}
use Rattle.model.specs.State.{at}
use Rattle.model.specs.Steal.{Moving, moved, first_wins, move_entry}
use Rattle.model.specs.Tidy.{context}
use Rattle.model.proofs.Cases.{never, pick}
use Rattle.model.proofs.Lists.{In}
use Rattle.model.proofs.Queues.{on, set_view}
use Rattle.model.proofs.Moves.{has_put, has_new}
use Rattle.model.proofs.Before.{queues, Free}
use Rattle.model.proofs.Firsts.{some_none, some_some}
use Rattle.model.proofs.Leaving.{Left, leaves}
use Rattle.model.proofs.Scanned.{Distinct}
use Rattle.model.proofs.Moving.{Moved, move_moved}
use Rattle.model_weights.proofs.Sums.{added, added_remove, added_put, insert_cases, held_weight}
use Rattle.model_weights.proofs.Weighing.{Alive, own_weight, Weights, Change, change}
use Rattle.model_weights.proofs.StartWeights.{not_free}
use Rattle.model_weights.proofs.ChargedWeights.{Fast, Holds, fast_placed, running_weight}
use Rattle.model_weights.proofs.ChosenWeights.{won_weight}

no_winner : (runs : Bool) (o : Option ℕ) → first_wins runs o ≡ true → o ≡ None
no_winner runs None t = refl
no_winner runs (Some x) t = never {b = false} t refl

module _ (k t : ℕ) (other : t ≢ k) (M : Machine) (runs : Bool) where
  abbrev cs₀ : List Context
  cs₀ = M.contexts

  abbrev R : ℕ → List Entry
  R = queues M

  -- runs: whether the holder is runnable
  pub record MovesWeight (m : Moving) : Type 0 where
    pub weights : Weights M.contexts (Fast k M runs) (Holds k M runs m.winner) m.state.contexts (on k m.state.cpu.queue (on t m.victim.queue (queues M)))
    pub total : m.state.cpu.block.total_weight ≡ running_weight k M runs + won_weight M m.winner + added m.state.cpu.queue
    pub winner : (x : ℕ) → m.winner ≡ Some x → (at m.state x).is_active ≡ true
    pub victim : m.victim.block.total_weight ≡ held_weight (context M (cpu_at M t).block.sched_ctxt) + added m.victim.queue

  module _ (a m : Moving) (all : List Entry) (e : Entry) (es : List Entry) (n : Moved (Free M) M.contexts k t other (queues M) runs a m all (e ∷ es)) (alive : Alive M.contexts e.context_ref)
      (w : MovesWeight m) where
    abbrev x : ℕ
    x = e.context_ref

    abbrev cs : List Context
    cs = m.state.contexts

    abbrev q : List Entry
    q = m.state.cpu.queue

    abbrev v : List Entry
    v = m.victim.queue

    abbrev c : Context
    c = moved m.state.cpu.block.v m.victim.block.v e.weight (at m.state x)

    abbrev entry : Entry
    entry = entry_of x e.weight c

    abbrev left : List Entry
    left = queue_remove e.key v

    gone_there : Left (Free M) M.contexts cs k t other q v (queues M) e c
    gone_there = leaves (Free M) M.contexts cs k t other q v (queues M) e c n.inv (n.rest e (inl refl)) refl refl

    weighs : e.weight ≡ own_weight M.contexts x
    weighs = w.weights.weighs e t gone_there.was_in alive

    active : (at m.state x).is_active ≡ true
    active = w.weights.active e t gone_there.was_in alive

    not_fast : Fast k M runs x → ⊥
    not_fast b = not_free M x (n.inv.free e t gone_there.was_in) (fast_placed k M runs x b)

    r : x < length cs
    r = n.inv.range e t gone_there.was_in

    -- the victim's total
    loses : m.victim.block.total_weight - e.weight ≡ held_weight (context M (cpu_at M t).block.sched_ctxt) + added left
    loses =
        let b : m.victim.block.total_weight ≡ held_weight (context M (cpu_at M t).block.sched_ctxt) + added v = w.victim in
        let d : added v ≡ e.weight + added left = added_remove e v (rw (ne_eqb t k other, eq-eqb t t refl) at (n.inv.sorted t)) (n.rest e (inl refl)) in
        omega (arith, b, d)

    -- the first stolen wins
    wins : m.winner ≡ None → Change M.contexts (Fast k M runs) (Holds k M runs m.winner) (Holds k M runs (Some x)) cs (on k q (on t v (queues M))) (on k q (on t left (queues M))) x c
    wins z =
        record {
          range = r;
          came = λ d i h o. gone_there.subset d i h;
          stays = λ y o h. gone_there.has y o h;
          its_entry = λ d i h o b. absurd (gone_there.out d i h o);
          may = λ b. inr (inr refl);
          held = λ y o b. other_held y b;
          kept = λ b. absurd (not_fast b);
        }
      where
        other_held : (y : ℕ) → Holds k M runs m.winner y → Holds k M runs (Some x) y
        other_held y (inl b) = inl b
        other_held y (inr p) = absurd (some_none (sym z ∙ p) refl)

    own₁ : entry.key.ctxt_id ≡ (context_at (set cs x c) x).debug_id
    own₁ = sym (ap (λ (b : Context). b.debug_id) gone_there.is_c)

    -- it is queued here
    queues_so : Change M.contexts (Fast k M runs) (Holds k M runs m.winner) (Holds k M runs m.winner) cs (on k q (on t v (queues M))) (on k (queue_insert entry q) (on t left (queues M))) x (with_new_key c)
    queues_so =
        record {
          range = r;
          came = λ d i h o. old d i o (insert_cases k q (on t left (queues M)) entry d i h);
          stays = λ y o h.
              has_put (Free M) M.contexts (set cs x c) k q (on t left (queues M)) gone_there.inv x entry gone_there.range own₁ refl gone_there.out y (gone_there.has y o h);
          its_entry = λ d i h z b. its d i z (insert_cases k q (on t left (queues M)) entry d i h);
          may = λ b. inl (alive, has_new (Free M) M.contexts (set cs x c) k q (on t left (queues M)) gone_there.inv x entry gone_there.range own₁ refl gone_there.out);
          held = λ y o b. b;
          kept = λ b. absurd (not_fast b);
        }
      where
        old : (d : Entry) (i : ℕ) → d.context_ref ≢ x → (d ≡ entry) ⊎ In d (on k q (on t left (queues M)) i) → In d (on k q (on t v (queues M)) i)
        old d i o (inl z) = absurd (o (ap (λ (y : Entry). y.context_ref) z))
        old d i o (inr h) = gone_there.subset d i h

        its : (d : Entry) (i : ℕ) → d.context_ref ≡ x → (d ≡ entry) ⊎ In d (on k q (on t left (queues M)) i) → (d.weight ≡ own_weight M.contexts x) × (c.is_active ≡ true)
        its d i z (inl y) = (ap (λ (b : Entry). b.weight) y ∙ weighs, active)
        its d i z (inr h) = absurd (gone_there.out d i h z)

    abbrev total_before : ℕ
    total_before = m.state.cpu.block.total_weight

    pub move_weighs : MovesWeight (move_entry runs m e)
    unfolding move_entry
    move_weighs =
        pick MovesWeight (first_wins runs m.winner)
        (λ u. let z = no_winner runs m.winner u in
        record {
          weights = change M.contexts (Fast k M runs) (Holds k M runs m.winner) (Holds k M runs (Some x)) cs (on k q (on t v (queues M))) (on k q (on t left (queues M))) x c (wins z) w.weights;
          total =
              let b : total_before ≡ running_weight k M runs + won_weight M m.winner + added q = w.total in
              let d : won_weight M m.winner ≡ 0 = ap (won_weight M) z in
              omega (arith, b, d, weighs);
          winner = λ y p. subst (λ o. (context_at (set cs x c) o).is_active ≡ true) (some_some p) (ap (λ (b : Context). b.is_active) gone_there.is_c ∙ active);
          victim = loses;
        })
        (λ u. record {
          weights = change M.contexts (Fast k M runs) (Holds k M runs m.winner) (Holds k M runs m.winner) cs (on k q (on t v (queues M))) (on k (queue_insert entry q) (on t left (queues M))) x (with_new_key c) queues_so w.weights;
          total =
              let b : total_before ≡ running_weight k M runs + won_weight M m.winner + added q = w.total in
              let d : added (queue_insert entry q) ≡ e.weight + added q =
              added_put (Free M) M.contexts (set cs x c) k q (on t left (queues M)) gone_there.inv x entry gone_there.range own₁ gone_there.out in
              omega (arith, b, d);
          winner = λ y p. set_view (λ (b : Context). b.is_active) cs x (with_new_key c) refl y ∙ w.winner y p;
          victim = loses;
        })

  -- the whole lot
  pub lot_weighs : (a m : Moving) (all es : List Entry) → ((d : Entry) → In d es → In d all) → ((d : Entry) → In d es → Alive M.contexts d.context_ref) → Distinct es
      → Moved (Free M) M.contexts k t other (queues M) runs a m all es → MovesWeight m → MovesWeight (fold (move_entry runs) m es)
  lot_weighs a m all [] s l d n w = w
  lot_weighs a m all (e ∷ es) s l d n w =
      lot_weighs a (move_entry runs m e) all es (λ g i. s g (inr i)) (λ g i. l g (inr i)) d.1
      (move_moved (Free M) M.contexts k t other (queues M) runs a m all e es n (s e (inl refl)) (l e (inl refl)) d.0) (move_weighs a m all e es n (l e (inl refl)) w)
