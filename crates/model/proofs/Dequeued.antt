-- The winner leaves the queue by its record's key: the state after the choice.
use Rattle.std.specs.Prelude.{None, Option, Some}
use mathlib.Core.Path.{◌≡◌, refl, subst, sym, ap, ◌∙◌}
use mathlib.Core.Bool.{true, false}
use mathlib.Core.List.{List, []}
use mathlib.Core.Logic.{◌⊎◌, inl, inr, ◌≢◌}
use Prim.Native.Nat.{ℕ, ◌<◌}
use lib.Dec.{eqb}
use lib.ListN.{length, length-set}
use borrow.Author.Tests.{eqb-true, eqb-false, eq-eqb}
use Rattle.context.specs.declared.Context.{Context}
use Rattle.context.specs.Status.{is_runnable}
use Rattle.entries.specs.declared.Entry.{Entry}
use Rattle.percpu.specs.With.{cpu_v}
use Rattle.machine.specs.Machine.{Machine, context_at, cpu_at}
use Rattle.model.specs.State.{State, at, on_cpu}
use Rattle.model.specs.Scan.{Scan}
use Rattle.model.specs.Choice.{Choice, choice, chosen, cleaned_up, dequeued, taken_out, ineligible_holder}
use Rattle.model.specs.Schedule.{scanned}
use Rattle.model.specs.Tidy.{Sound, Tidy}
use Rattle.model.proofs.Cases.{by_test, never, pick, and_both}
use Rattle.model.proofs.Lists.{In}
use Rattle.model.proofs.Queues.{Inv, fixed, set_view, on, Has, Without, Agrees, gone_of}
use Rattle.model.proofs.Moves.{inv_take, now_out, has_take, was_in}
use Rattle.model.proofs.Before.{roles, queues, Free}
use Rattle.model.proofs.Woken.{Waking}
use Rattle.model.proofs.ScanKept.{Lost, Scanning, scan_kept, ready_stays}
use Rattle.model.proofs.Chosen.{is_waiting, Follows, entry_first, holder_kept, holder_alone, holder_least, holder_by_deadline, entry_least, nobody_waits, separate, choice_follows}
use Rattle.model.proofs.Judged.{ready_alive}
use Rattle.model.proofs.Firsts.{some_none, some_some}
use Rattle.context.specs.Key.{queue_key, without_key}

module _ (F : ℕ → Type 0) (cs₀ : List Context) (k : ℕ) (R : ℕ → List Entry) where
  -- x is out of every queue, and may be put in charge
  pub record Winner (x : ℕ) (cs : List Context) (Q : ℕ → List Entry) : Type 0 where
    pub range : x < length cs
    pub live : (context_at cs x).gone ≡ false
    pub out : Without x Q
    pub free : F x

  -- the state s with x's entry taken out
  pub record TakenOut (x : ℕ) (s t : State) : Type 0 where
    pub inv : Inv F cs₀ t.contexts (on k t.cpu.queue R)
    pub winner : Winner x t.contexts (on k t.cpu.queue R)
    pub has : (y : ℕ) → y ≢ x → Has y (on k s.cpu.queue R) → Has y (on k t.cpu.queue R)
    pub subset : (e : Entry) (i : ℕ) → In e (on k t.cpu.queue R i) → In e (on k s.cpu.queue R i)
    pub status : (y : ℕ) → (at t y).status ≡ (at s y).status
    pub block : t.cpu.block.v ≡ s.cpu.block.v
    pub roles_kept : roles t.cpu ≡ roles s.cpu
    pub total : t.cpu.block.total_weight ≡ s.cpu.block.total_weight

  pub dequeue : (s : State) (e : Entry) → Inv F cs₀ s.contexts (on k s.cpu.queue R) → In e s.cpu.queue
      → (at s e.context_ref).gone ≡ false → TakenOut e.context_ref s (dequeued e.context_ref s)
  dequeue s e n i l =
      pick (TakenOut e.context_ref s) (at s e.context_ref).has_queue_key
      (λ t. record {
        inv = inv_take F cs₀ s.contexts k s.cpu.queue R n e.context_ref (queue_key (at s e.context_ref)) r refl only _ refl (λ z. refl);
        winner = record {
          range = rw (length-set s.contexts e.context_ref (without_key (at s e.context_ref))) r;
          live = gone_of (set_view fixed s.contexts e.context_ref (without_key (at s e.context_ref)) refl e.context_ref) ∙ l;
          out = now_out F cs₀ s.contexts k s.cpu.queue R n e.context_ref (queue_key (at s e.context_ref)) r refl only;
          free = n.free e k here;
        };
        has = has_take F cs₀ s.contexts k s.cpu.queue R n e.context_ref (queue_key (at s e.context_ref)) r refl only;
        subset = was_in F cs₀ s.contexts k s.cpu.queue R n e.context_ref (queue_key (at s e.context_ref)) r refl only;
        status = set_view (λ (c : Context). c.status) s.contexts e.context_ref (without_key (at s e.context_ref)) refl;
        block = refl;
        roles_kept = refl;
        total = refl;
      })
      (λ t. never a.has_key t)
    where
      here : In e (on k s.cpu.queue R k)
      here = rw (eq-eqb k k refl) i

      r : e.context_ref < length s.contexts
      r = n.range e k here

      a : Agrees (at s e.context_ref) e
      a = n.agrees e k here l

      is_key : e.key ≡ queue_key (at s e.context_ref)
      is_key = λ j. record { vd = sym a.key_vd j; rem_slice = sym a.key_rem_slice j; ctxt_id = sym (n.id e k here) j }

      only : (d : Entry) (i : ℕ) → In d (on k s.cpu.queue R i) → d.context_ref ≡ e.context_ref → (d.key ≡ queue_key (at s e.context_ref)) × (i ≡ k)
      only d i g m = let (p, z) = n.one d e i k g here m in (ap (λ (b : Entry). b.key) p ∙ is_key, z)

module _ (k time : ℕ) (M : Machine) (S : Sound M) (T : Tidy M) (J : State) (n : Waking k time M S T J) where
  abbrev pub scan_of : Scan
  scan_of = scanned k time J

  abbrev pub choice_of : Choice
  choice_of = choice J (scanned k time J)

  abbrev pub chosen_state : State
  chosen_state = chosen (choice J (scanned k time J)) (scanned k time J) J

  -- the state after the choice
  pub record AfterChoice (w : Option ℕ) (t : State) : Type 0 where
    pub inv : Inv (Free M) M.contexts t.contexts (on k t.cpu.queue (queues M))
    pub winner : (x : ℕ) → w ≡ Some x → Winner (Free M) M.contexts k (queues M) x t.contexts (on k t.cpu.queue (queues M))
    pub kept : (y : ℕ) → Has y (on k J.cpu.queue (queues M)) → Has y (on k t.cpu.queue (queues M)) ⊎ (Lost (at t y) ⊎ (w ≡ Some y))
    pub frame : (y : ℕ) → Without y (on k J.cpu.queue (queues M)) → (at t y).status ≡ (at J y).status
    pub roles_kept : roles t.cpu ≡ roles (cpu_at M k)
    pub v : t.cpu.block.v ≡ choice_of.v

  pub kept_scan : Scanning (Free M) M.contexts k time J.cpu (ineligible_holder J) J.contexts J.cpu.queue (queues M) n.kept scan_of []
  kept_scan = scan_kept (Free M) M.contexts k time J.cpu (ineligible_holder J) J.contexts J.cpu.queue (queues M) n.kept
      (separate (Free M) M.contexts k time (queues M) J n.kept)

  -- the state after the clean-up, with V moved
  abbrev pub cleaned : State
  cleaned = on_cpu (cpu_v choice_of.v) (cleaned_up scan_of J)

  after_scan : AfterChoice None cleaned
  unfolding cleaned_up
  after_scan =
      record {
        inv = kept_scan.inv;
        winner = λ x z. absurd (some_none z refl);
        kept = stays;
        frame = λ y o. ap (λ (c : Context). c.status) (kept_scan.frame y (λ e i. o e k (rw (eq-eqb k k refl) i)));
        roles_kept = n.roles_kept;
        v = refl;
      }
    where
      stays : (y : ℕ) → Has y (on k J.cpu.queue (queues M))
          → Has y (on k cleaned.cpu.queue (queues M)) ⊎ (Lost (at cleaned y) ⊎ (◌≡◌ {A = Option ℕ} None (Some y)))
      stays y (e, i, g, m) =
          by_test (eqb i k) (λ t. go (kept_scan.lost e (rw t at g))) (λ t. inl (e, i, rw t (rw t at g), m))
        where
          go : In e cleaned.cpu.queue ⊎ Lost (context_at scan_of.contexts e.context_ref)
              → Has y (on k cleaned.cpu.queue (queues M)) ⊎ (Lost (at cleaned y) ⊎ (◌≡◌ {A = Option ℕ} None (Some y)))
          go (inl j) = inl (e, k, rw (eq-eqb k k refl) j, m)
          go (inr l) = inr (inl (subst (λ x. Lost (context_at scan_of.contexts x)) m l))

  -- a ready entry wins
  after_entry : (e : Entry) → In e J.cpu.queue → is_waiting k time J e ≡ true → AfterChoice (Some e.context_ref) (dequeued e.context_ref cleaned)
  unfolding cleaned_up
  after_entry e i t =
      record {
        inv = d.inv;
        winner = λ x z. subst (λ y. Winner (Free M) M.contexts k (queues M) y u.contexts (on k u.cpu.queue (queues M))) (some_some z) d.winner;
        kept = λ y h. stays y (after_scan.kept y h);
        frame = λ y o. d.status y ∙ after_scan.frame y o;
        roles_kept = d.roles_kept ∙ n.roles_kept;
        v = d.block;
      }
    where
      u : State
      u = dequeued e.context_ref cleaned

      live : (at J e.context_ref).gone ≡ false
      live = ready_alive k time J.cpu (at J e.context_ref) e t

      d : TakenOut (Free M) M.contexts k (queues M) e.context_ref cleaned (dequeued e.context_ref cleaned)
      d =
          dequeue (Free M) M.contexts k (queues M) cleaned e kept_scan.inv
          (ready_stays (Free M) M.contexts k time J.cpu (ineligible_holder J) J.contexts J.cpu.queue (queues M) n.kept
          (separate (Free M) M.contexts k time (queues M) J n.kept) e i t)
          (gone_of (kept_scan.inv.same e.context_ref ∙ sym (n.kept.same e.context_ref)) ∙ live)

      stays : (y : ℕ) → Has y (on k cleaned.cpu.queue (queues M)) ⊎ (Lost (at cleaned y) ⊎ (◌≡◌ {A = Option ℕ} None (Some y)))
          → Has y (on k u.cpu.queue (queues M)) ⊎ (Lost (at u y) ⊎ (Some e.context_ref ≡ Some y))
      stays y (inl h) =
          by_test (eqb y e.context_ref) (λ z. inr (inr (ap Some (sym (eqb-true y e.context_ref z)))))
          (λ z. inl (d.has y (eqb-false y e.context_ref z) h))
      stays y (inr (inl (inl g))) = inr (inl (inl (gone_of (d.inv.same y ∙ sym (kept_scan.inv.same y)) ∙ g)))
      stays y (inr (inl (inr g))) = inr (inl (inr (ap is_runnable (d.status y) ∙ g)))
      stays y (inr (inr z)) = absurd (some_none z refl)

  -- what is proved of the state after the clean-up, and of it with the entry of a ready one taken out, holds after the choice
  pub choice_cases : (P : Option ℕ → State → Type 0) → P None cleaned
      → ((e : Entry) → In e J.cpu.queue → is_waiting k time J e ≡ true → P (Some e.context_ref) (dequeued e.context_ref cleaned))
      → P choice_of.winner chosen_state
  unfolding chosen
  choice_cases P a b = go (choice_follows (Free M) M.contexts k time (queues M) J n.kept)
    where
      won : (o : Option ℕ) → choice_of.winner ≡ o → P o (taken_out o cleaned) → P choice_of.winner (taken_out choice_of.winner cleaned)
      won o z c = subst (λ y. P y (taken_out y cleaned)) (sym z) c

      go : Follows k time J choice_of → P choice_of.winner (taken_out choice_of.winner cleaned)
      go (entry_first e f o z v) = won _ z (b e f.is_in (and_both (is_waiting k time J e) _ f.passes).0)
      go (holder_kept e f o r z v) = won _ z a
      go (holder_alone f o z v) = won _ z a
      go (holder_least f r g z v) = won _ z a
      go (holder_by_deadline f r e g l o z v) = won _ z a
      go (entry_least f e g l z v) = won _ z (b e g.is_in g.passes)
      go (nobody_waits f r z v) = won _ z a

  pub after_choice : AfterChoice choice_of.winner chosen_state
  after_choice = choice_cases AfterChoice after_scan after_entry
