-- V advances and a runnable holder that lost goes back to the queue.
use Rattle.std.specs.Prelude.{if◌then◌else◌, None, Option, Some, is_some}
use mathlib.Core.Path.{◌≡◌, refl, subst, sym, ap, ◌∙◌}
use mathlib.Core.Bool.{Bool, true, false, not, ◌&&◌, ◌||◌}
use mathlib.Core.Logic.{◌⊎◌, inl, inr, ◌≢◌}
use Prim.Native.Nat.{ℕ, ◌+◌, ◌/◌, ◌<◌}
use native.Mathlib.Omega.{arith}
use lib.Dec.{eqb}
use lib.ListN.{length}
use Rattle.context.specs.declared.Context.{Context}
use Rattle.weights.specs.Weights.{weight}
use Rattle.entries.specs.declared.Entry.{Entry}
use Rattle.entries.specs.Order.{entry_before}
use Rattle.entries.specs.Queue.{queue_insert}
use Rattle.machine.specs.Machine.{Machine, context_at, cpu_at}
use Rattle.model.specs.State.{State, at, on_cpu, holder}
use Rattle.model.specs.Steal.{Stealing, mark_stealable}
use Rattle.model.specs.Tidy.{Sound, Tidy, Present}
use Rattle.model.proofs.Cases.{by_test, never, pick, and_both, and_true}
use Rattle.model.proofs.Lists.{In}
use Rattle.model.proofs.Sorted.{in_insert}
use Rattle.model.proofs.Queues.{Inv, inv_free, set_view, gone_of, on, Has, Without}
use Rattle.model.proofs.Moves.{no_key, inv_put, has_put, has_new}
use Rattle.model.proofs.Before.{Roles, roles, queues, Free}
use Rattle.model.proofs.Dequeued.{Winner}
use Rattle.model.proofs.CpuQueues.{queue_list}
use Rattle.context.specs.Key.{with_new_key, entry_of}
use Rattle.model.specs.Handover.{advance, requeue, settled}

module _ (k : ℕ) (M : Machine) where
  -- idle nowhere, and in charge nowhere once c is in charge here
  pub record Fit (c y : ℕ) : Type 0 where
    pub not_idle : (j : ℕ) → Present M j → y ≢ (cpu_at M j).block.idle_ctxt
    pub not_in_charge : y ≢ c
    pub not_elsewhere : (j : ℕ) → Present M j → j ≢ k → y ≢ (cpu_at M j).block.sched_ctxt

  -- who is in charge afterwards
  abbrev pub successor : Bool → Option ℕ → ℕ
  successor runs (Some x) = x
  successor runs None = if runs then (cpu_at M k).block.sched_ctxt else (cpu_at M k).block.idle_ctxt

  -- V's own advance
  abbrev pub gain : Bool → Option ℕ → ℕ → ℕ → ℕ
  gain runs w n total = if (is_some w || runs) && not (eqb total 0) then n / total else 0

module _ (k : ℕ) (M : Machine) (S : Sound M) (T : Tidy M) (P : Present M k) (runs : Bool) (n : ℕ) (l : Stealing)
    (kept : Inv (Free M) M.contexts l.state.contexts (on k l.state.cpu.queue (queue_list l.cpus)))
    (win : (x : ℕ) → l.winner ≡ Some x → Winner (Free M) M.contexts k (queues M) x l.state.contexts (on k l.state.cpu.queue (queue_list l.cpus)))
    (roles_are : roles l.state.cpu ≡ roles (cpu_at M k)) (awake : runs ≡ true → (cpu_at M k).block.sched_ctxt ≢ (cpu_at M k).block.idle_ctxt) where
  pub record Settled (s : State) : Type 0 where
    pub inv : Inv (Fit k M (successor k M runs l.winner)) M.contexts s.contexts (on k s.cpu.queue (queue_list l.cpus))
    pub status : (y : ℕ) → (at s y).status ≡ (at l.state y).status
    pub roles_kept : roles s.cpu ≡ roles (cpu_at M k)
    pub has : (y : ℕ) → Has y (on k l.state.cpu.queue (queue_list l.cpus)) → Has y (on k s.cpu.queue (queue_list l.cpus))
    pub here : (d : Entry) → In d s.cpu.queue → In d l.state.cpu.queue ⊎ (d.context_ref ≡ (cpu_at M k).block.sched_ctxt)
    pub total : s.cpu.block.total_weight ≡ l.state.cpu.block.total_weight
    pub v : s.cpu.block.v ≡ l.state.cpu.block.v + gain k M runs l.winner n l.state.cpu.block.total_weight
    pub back : is_some l.winner ≡ true → runs ≡ true → Has (cpu_at M k).block.sched_ctxt (on k s.cpu.queue (queue_list l.cpus))

  -- before the holder goes back
  record Advanced (s : State) : Type 0 where
    pub inv : Inv (Fit k M (successor k M runs l.winner)) M.contexts s.contexts (on k s.cpu.queue (queue_list l.cpus))
    pub status : (y : ℕ) → (at s y).status ≡ (at l.state y).status
    pub roles_kept : roles s.cpu ≡ roles (cpu_at M k)
    pub has : (y : ℕ) → Has y (on k l.state.cpu.queue (queue_list l.cpus)) → Has y (on k s.cpu.queue (queue_list l.cpus))
    pub here : (d : Entry) → In d s.cpu.queue → In d l.state.cpu.queue
    pub total : s.cpu.block.total_weight ≡ l.state.cpu.block.total_weight
    pub v : s.cpu.block.v ≡ l.state.cpu.block.v + gain k M runs l.winner n l.state.cpu.block.total_weight
    pub out : Without s.cpu.block.sched_ctxt (on k s.cpu.queue (queue_list l.cpus))

  -- what is queued may stay queued
  fits : (o : Option ℕ) → l.winner ≡ o → (e : Entry) (i : ℕ) → In e (on k l.state.cpu.queue (queue_list l.cpus) i) → Fit k M (successor k M runs o) e.context_ref
  fits (Some x) z e i h =
      record {
        not_idle = (kept.free e i h).not_idle;
        not_in_charge = (win x z).out e i h;
        not_elsewhere = λ j p o. (kept.free e i h).not_in_charge j p;
      }
  fits None z e i h =
      record {
        not_idle = (kept.free e i h).not_idle;
        not_in_charge = pick (λ c. e.context_ref ≢ c) runs (λ t. (kept.free e i h).not_in_charge k P) (λ t. (kept.free e i h).not_idle k P);
        not_elsewhere = λ j p o. (kept.free e i h).not_in_charge j p;
      }

  advanced : Advanced (advance runs l.winner n l.state)
  unfolding advance
  advanced =
      by_test ((is_some l.winner || runs) && not (eqb l.state.cpu.block.total_weight 0))
      (λ t. rw t (record {
        inv = i₁;
        status = λ y. refl;
        roles_kept = roles_are;
        has = λ y h. h;
        here = λ d i. i;
        total = refl;
        v = rw t;
        out = out₁;
      }))
      (λ t. rw t (record {
        inv = i₁;
        status = λ y. refl;
        roles_kept = roles_are;
        has = λ y h. h;
        here = λ d i. i;
        total = refl;
        v = rw t (omega arith);
        out = out₁;
      }))
    where
      i₁ : Inv (Fit k M (successor k M runs l.winner)) M.contexts l.state.contexts (on k l.state.cpu.queue (queue_list l.cpus))
      i₁ = inv_free (Free M) M.contexts (Fit k M (successor k M runs l.winner)) l.state.contexts _ (fits l.winner refl) kept

      out₁ : Without l.state.cpu.block.sched_ctxt (on k l.state.cpu.queue (queue_list l.cpus))
      out₁ e i h m = (kept.free e i h).not_in_charge k P (m ∙ ap (λ (z : Roles). z.sched) roles_are)

  -- the holder may be queued where another wins
  holder_fits : (o : Option ℕ) → l.winner ≡ o → is_some o ≡ true → runs ≡ true → Fit k M (successor k M runs o) (cpu_at M k).block.sched_ctxt
  holder_fits None z t r = never {b = false} t refl
  holder_fits (Some x) z t r =
      record {
        not_idle = λ j p m. awake r (m ∙ ap (λ i. (cpu_at M i).block.idle_ctxt) (sym (T.idle_at_home k j P p m)));
        not_in_charge = λ m. (win x z).free.not_in_charge k P (sym m);
        not_elsewhere = λ j p o m. o (sym (T.one_in_charge k j P p m));
      }

  requeued : (s : State) → Advanced s → is_some l.winner ≡ true → runs ≡ true → Settled (requeue s)
  unfolding requeue
  requeued s a t r =
      rw nk
      (record {
        inv = inv_put G M.contexts s.contexts k s.cpu.queue (queue_list l.cpus) a.inv h e q refl refl a.out (with_new_key (holder s)) refl
            (record { has_key = refl; key_vd = refl; key_rem_slice = refl; key_id = refl; vd = refl; rem_slice = refl; vtime = refl })
            (rw is_h (holder_fits l.winner refl t r));
        status = λ y. set_view (λ (c : Context). c.status) s.contexts h (with_new_key (holder s)) refl y ∙ a.status y;
        roles_kept = a.roles_kept;
        has = λ y b. has_put G M.contexts s.contexts k s.cpu.queue (queue_list l.cpus) a.inv h e q refl refl a.out y (a.has y b);
        here = λ d i. came d (in_insert entry_before e d s.cpu.queue i);
        total = a.total;
        v = a.v;
        back = λ z w. subst (λ y. Has y (on k (queue_insert e s.cpu.queue) (queue_list l.cpus))) is_h
            (has_new G M.contexts s.contexts k s.cpu.queue (queue_list l.cpus) a.inv h e q refl refl a.out);
      })
    where
      G : ℕ → Type 0
      G = Fit k M (successor k M runs l.winner)

      h : ℕ
      h = s.cpu.block.sched_ctxt

      e : Entry
      e = entry_of s.cpu.block.sched_ctxt (weight (holder s).prio) (holder s)

      is_h : s.cpu.block.sched_ctxt ≡ (cpu_at M k).block.sched_ctxt
      is_h = ap (λ (z : Roles). z.sched) a.roles_kept

      q : s.cpu.block.sched_ctxt < length s.contexts
      q = rw (a.inv.count, is_h) (S.in_charge_is k P)

      nk : (holder s).has_queue_key ≡ false
      nk =
          no_key (Fit k M (successor k M runs l.winner)) M.contexts s.contexts _ s.cpu.block.sched_ctxt a.inv q
          (gone_of (a.inv.same s.cpu.block.sched_ctxt) ∙ ap (λ y. (context_at M.contexts y).gone) is_h ∙ S.in_charge_live k P) a.out

      came : (d : Entry) → (d ≡ e) ⊎ In d s.cpu.queue → In d l.state.cpu.queue ⊎ (d.context_ref ≡ (cpu_at M k).block.sched_ctxt)
      came d (inl p) = inr (ap (λ (b : Entry). b.context_ref) p ∙ is_h)
      came d (inr i) = inl (a.here d i)

  marked : (s : State) → Settled s → Settled (on_cpu mark_stealable s)
  marked s a = record { inv = a.inv; status = a.status; roles_kept = a.roles_kept; has = a.has; here = a.here; total = a.total; v = a.v; back = a.back }

  pub settles : (time : ℕ) → Settled (settled runs n l)
  unfolding settled
  settles time =
      marked _
      (pick Settled (is_some l.winner && runs) (λ t. let (a, b) = and_both (is_some l.winner) _ t in requeued _ advanced a b)
      (λ t. record {
        inv = advanced.inv;
        status = advanced.status;
        roles_kept = advanced.roles_kept;
        has = advanced.has;
        here = λ d i. inl (advanced.here d i);
        total = advanced.total;
        v = advanced.v;
        back = λ a b. never {b = false} (sym t ∙ and_true (is_some l.winner) runs a b) refl;
      }))
