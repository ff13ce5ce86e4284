-- A runnable holder that lost goes back to the queue with its weight: what is left besides the queue is the weight of who is in charge next.
use Rattle.std.specs.Prelude.{None, Option, Some, is_some}
use mathlib.Core.Path.{◌≡◌, refl, sym, ap, ◌∙◌}
use mathlib.Core.Bool.{Bool, true, false, not, ◌&&◌, ◌||◌}
use mathlib.Core.List.{List}
use mathlib.Core.Logic.{◌⊎◌, inl, inr, ◌≢◌}
use Prim.Native.Nat.{ℕ, ◌+◌, ◌<◌}
use native.Mathlib.Omega.{arith}
use lib.Dec.{eqb}
use lib.ListN.{length}
use borrow.Author.Tests.{eqb-true, eqb-false}
use Rattle.context.specs.declared.Context.{Context}
use Rattle.context.specs.Key.{with_new_key, entry_of}
use Rattle.weights.specs.Weights.{weight}
use Rattle.entries.specs.declared.Entry.{Entry}
use Rattle.entries.specs.Queue.{queue_insert}
use Rattle.machine.specs.Machine.{Machine, cpu_at}
use Rattle.model.specs.State.{State, at, on_cpu, holder}
use Rattle.model.specs.Steal.{Stealing, mark_stealable}
use Rattle.model.specs.Handover.{advance, requeue, settled}
use Rattle.model.specs.Tidy.{Sound, Present, InCharge, context}
use Rattle.model.proofs.Cases.{by_test, never, pick, and_both}
use Rattle.model.proofs.Lists.{In}
use Rattle.model.proofs.Queues.{Inv, on, Without, gone_of, set_view}
use Rattle.model.proofs.Moves.{no_key, has_put, has_new}
use Rattle.model.proofs.Before.{Roles, roles, Free}
use Rattle.model.proofs.CpuQueues.{queue_list}
use Rattle.model.proofs.Settled.{successor}
use Rattle.model_weights.proofs.Sums.{added, added_put, insert_cases}
use Rattle.model_weights.proofs.Weighing.{prio_of, Alive, own_weight, Weights, Change, change, same_names}
use Rattle.model_weights.proofs.ChargedWeights.{Fast, Holds, running_weight}
use Rattle.model_weights.proofs.ChosenWeights.{won_weight}
use Rattle.model_weights.proofs.StolenWeights.{Steals}

module _ (k : ℕ) (M : Machine) where
  -- who may be active without an entry at the end: who is in charge elsewhere, and who will be here
  abbrev pub Remains : Bool → Option ℕ → ℕ → Type 0
  Remains runs w x = ((j : ℕ) × InCharge M x j × (j ≢ k)) ⊎ (x ≡ successor k M runs w)

  -- what that one adds to the total
  abbrev pub successor_weight : Bool → Option ℕ → ℕ
  successor_weight runs (Some x) = own_weight M.contexts x
  successor_weight runs None = running_weight k M runs

module _ (k : ℕ) (M : Machine) (S : Sound M) (P : Present M k) (runs : Bool) (n : ℕ) (l : Stealing)
    (kept : Inv (Free M) M.contexts l.state.contexts (on k l.state.cpu.queue (queue_list l.cpus))) (roles_are : roles l.state.cpu ≡ roles (cpu_at M k))
    (b : Steals k M runs l) (runs_active : runs ≡ true → (context M (cpu_at M k).block.sched_ctxt).is_active ≡ true) where
  abbrev h : ℕ
  h = (cpu_at M k).block.sched_ctxt

  abbrev R : ℕ → List Entry
  R = queue_list l.cpus

  pub record Settles (s : State) : Type 0 where
    pub weights : Weights M.contexts (Fast k M runs) (Remains k M runs l.winner) s.contexts (on k s.cpu.queue (queue_list l.cpus))
    pub total : s.cpu.block.total_weight ≡ successor_weight k M runs l.winner + added s.cpu.queue
    pub winner : (x : ℕ) → l.winner ≡ Some x → (at s x).is_active ≡ true

  -- before the holder goes back
  record Advances (s : State) : Type 0 where
    pub inv : Inv (Free M) M.contexts s.contexts (on k s.cpu.queue (queue_list l.cpus))
    pub weights : Weights M.contexts (Fast k M runs) (Holds k M runs l.winner) s.contexts (on k s.cpu.queue (queue_list l.cpus))
    pub total : s.cpu.block.total_weight ≡ running_weight k M runs + won_weight M l.winner + added s.cpu.queue
    pub winner : (x : ℕ) → l.winner ≡ Some x → (at s x).is_active ≡ true
    pub is_h : s.cpu.block.sched_ctxt ≡ h

  advances : Advances (advance runs l.winner n l.state)
  unfolding advance
  advances =
      pick Advances ((is_some l.winner || runs) && not (eqb l.state.cpu.block.total_weight 0))
      (λ t. record { inv = kept; weights = b.weights; total = b.total; winner = b.winner; is_h = is_sched })
      (λ t. record { inv = kept; weights = b.weights; total = b.total; winner = b.winner; is_h = is_sched })
    where
      is_sched : l.state.cpu.block.sched_ctxt ≡ h
      is_sched = ap (λ (z : Roles). z.sched) roles_are

  -- nobody goes back
  stays : (o : Option ℕ) (r : Bool) → l.winner ≡ o → runs ≡ r → (is_some o && r) ≡ false → (s : State) → Advances s → Settles s
  stays (Some x) true z t u s a = never {b = true} refl u
  stays (Some x) false z t u s a =
      record {
        weights = same_names M.contexts (Fast k M runs) (Fast k M runs) (Holds k M runs l.winner) (Remains k M runs l.winner) s.contexts _ (λ y f. f) (λ y q m c. go y c) a.weights;
        total =
            let g : s.cpu.block.total_weight ≡ running_weight k M runs + won_weight M l.winner + added s.cpu.queue = a.total in
            let e : running_weight k M runs ≡ 0 = ap (running_weight k M) t in
            let f : won_weight M l.winner ≡ own_weight M.contexts x = ap (won_weight M) z in
            let d : successor_weight k M runs l.winner ≡ own_weight M.contexts x = ap (successor_weight k M runs) z in
            omega (arith, g, e, f, d);
        winner = a.winner;
      }
    where
      go : (y : ℕ) → Holds k M runs l.winner y → Remains k M runs l.winner y
      go y (inl (j, c, inl o)) = inl (j, c, o)
      go y (inl (j, c, inr p)) = never p t
      go y (inr p) = inr (sym (ap (successor k M runs) p))
  stays None r z t u s a =
      record {
        weights = same_names M.contexts (Fast k M runs) (Fast k M runs) (Holds k M runs l.winner) (Remains k M runs l.winner) s.contexts _ (λ y f. f) (λ y q m c. go y c) a.weights;
        total =
            let g : s.cpu.block.total_weight ≡ running_weight k M runs + won_weight M l.winner + added s.cpu.queue = a.total in
            let f : won_weight M l.winner ≡ 0 = ap (won_weight M) z in
            let d : successor_weight k M runs l.winner ≡ running_weight k M runs = ap (successor_weight k M runs) z in
            omega (arith, g, f, d);
        winner = a.winner;
      }
    where
      go : (y : ℕ) → Holds k M runs l.winner y → Remains k M runs l.winner y
      go y (inl (j, c, inl o)) = inl (j, c, o)
      go y (inl (j, c, inr p)) =
          by_test (eqb j k)
          (λ v. inr (sym c.named ∙ ap (λ i. (cpu_at M i).block.sched_ctxt) (eqb-true j k v) ∙ sym (ap (successor k M runs) z ∙ rw p)))
          (λ v. inl (j, c, eqb-false j k v))
      go y (inr p) = inr (sym (ap (successor k M runs) p))

  -- the holder goes back
  module _ (s : State) (a : Advances s) (t : is_some l.winner ≡ true) (u : runs ≡ true) where
    abbrev c : Context
    c = holder s

    abbrev x : ℕ
    x = s.cpu.block.sched_ctxt

    abbrev e : Entry
    e = entry_of x (weight c.prio) c

    abbrev q : List Entry
    q = s.cpu.queue

    r : x < length s.contexts
    r = rw (a.inv.count, a.is_h) (S.in_charge_is k P)

    out : Without x (on k q R)
    out d i g m = (a.inv.free d i g).not_in_charge k P (m ∙ a.is_h)

    alive : Alive M.contexts x
    alive = rw a.is_h (S.in_charge_live k P)

    no_key_left : c.has_queue_key ≡ false
    no_key_left = no_key (Free M) M.contexts s.contexts (on k q R) x a.inv r (gone_of (a.inv.same x) ∙ alive) out

    weighs : weight c.prio ≡ own_weight M.contexts x
    weighs = ap weight (prio_of (a.inv.same x))

    active : c.is_active ≡ true
    active = a.weights.still x (k, P, inl (inr u, a.is_h)) ∙ ap (λ y. (context M y).is_active) a.is_h ∙ runs_active u

    goes_back : Change M.contexts (Fast k M runs) (Holds k M runs l.winner) (Remains k M runs l.winner) s.contexts (on k q R) (on k (queue_insert e q) R) x (with_new_key c)
    goes_back =
        record {
          range = r;
          came = λ d i g o. old d i o (insert_cases k q R e d i g);
          stays = λ y o g. has_put (Free M) M.contexts s.contexts k q R a.inv x e r refl refl out y g;
          its_entry = λ d i g z o. its d i z (insert_cases k q R e d i g);
          may = λ o. inl (alive, has_new (Free M) M.contexts s.contexts k q R a.inv x e r refl refl out);
          held = λ y o g. others y o g;
          kept = λ g. a.weights.still x g;
        }
      where
        old : (d : Entry) (i : ℕ) → d.context_ref ≢ x → (d ≡ e) ⊎ In d (on k q R i) → In d (on k q R i)
        old d i o (inl z) = absurd (o (ap (λ (y : Entry). y.context_ref) z))
        old d i o (inr g) = g

        its : (d : Entry) (i : ℕ) → d.context_ref ≡ x → (d ≡ e) ⊎ In d (on k q R i) → (d.weight ≡ own_weight M.contexts x) × (c.is_active ≡ true)
        its d i z (inl y) = (ap (λ (o : Entry). o.weight) y ∙ weighs, active)
        its d i z (inr g) = absurd (out d i g z)

        others : (y : ℕ) → y ≢ x → Holds k M runs l.winner y → Remains k M runs l.winner y
        others y o (inl (j, g, p)) = inl (j, g, λ z. o (sym g.named ∙ ap (λ i. (cpu_at M i).block.sched_ctxt) z ∙ sym a.is_h))
        others y o (inr p) = inr (sym (ap (successor k M runs) p))

    requeues : Settles (requeue s)
    unfolding requeue
    requeues =
        rw no_key_left
        (record {
          weights = change M.contexts (Fast k M runs) (Holds k M runs l.winner) (Remains k M runs l.winner) s.contexts (on k q R) (on k (queue_insert e q) R) x (with_new_key c) goes_back a.weights;
          total =
              let g : s.cpu.block.total_weight ≡ running_weight k M runs + won_weight M l.winner + added q = a.total in
              let f : running_weight k M runs ≡ weight c.prio = ap (running_weight k M) u ∙ ap (own_weight M.contexts) (sym a.is_h) ∙ sym weighs in
              let d : added (queue_insert e q) ≡ weight c.prio + added q = added_put (Free M) M.contexts s.contexts k q R a.inv x e r refl out in
              let w : successor_weight k M runs l.winner ≡ won_weight M l.winner = same_weight l.winner t in
              omega (arith, g, f, d, w);
          winner = λ y p. set_view (λ (o : Context). o.is_active) s.contexts x (with_new_key c) refl y ∙ a.winner y p;
        })
      where
        same_weight : (o : Option ℕ) → is_some o ≡ true → successor_weight k M runs o ≡ won_weight M o
        same_weight (Some y) z = refl
        same_weight None z = never {b = false} z refl

  pub settled_settles : Settles (settled runs n l)
  unfolding settled
  settled_settles =
      marked _
      (pick Settles (is_some l.winner && runs) (λ t. let (v, u) = and_both (is_some l.winner) _ t in requeues _ advances v u)
      (λ t. stays l.winner runs refl refl t _ advances))
    where
      marked : (s : State) → Settles s → Settles (on_cpu mark_stealable s)
      marked s a = record { weights = a.weights; total = a.total; winner = a.winner }
