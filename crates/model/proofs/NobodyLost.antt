-- Nobody is lost: who was queued or in charge here, and is runnable, is queued or in charge.
use Rattle.std.specs.Prelude.{None, Option, Some, is_some}
use mathlib.Core.Path.{◌≡◌, refl, subst, sym, ap, ◌∙◌}
use mathlib.Core.Bool.{Bool, true, false, not}
use mathlib.Core.Logic.{◌⊎◌, inl, inr}
use Prim.Native.Nat.{ℕ}
use borrow.Author.Tests.{eqb-true, eq-eqb}
use Rattle.context.specs.Status.{is_runnable}
use Rattle.machine.specs.Machine.{Machine, cpu_at}
use Rattle.model.specs.State.{at, is_idle}
use Rattle.model.specs.Steal.{Stealing}
use Rattle.model.specs.Tidy.{Sound, Tidy, Present, Live, Runnable, Queued, Idle, IsContext, context}
use Rattle.model.specs.Demand3.{in_charge, Kept, queued_once, put_in_charge, QueuedOrInCharge, was_queued, was_in_charge, was_woken}
use Rattle.model.proofs.Turn.{Turn}
use Rattle.model.proofs.Cases.{by_test, never, and_true}
use Rattle.model.proofs.Queues.{gone_of, on, Has, Without}
use Rattle.model.proofs.Places.{queued_at}
use Rattle.model.proofs.Before.{Roles, queues}
use Rattle.model.proofs.Charged.{holder_out}
use Rattle.model.proofs.CpuQueues.{queue_list}
use Rattle.model.proofs.Settled.{successor}
use Rattle.model.proofs.Ended.{Lasting, lasting}
use Rattle.model.proofs.ScanKept.{Lost}
use Rattle.model.proofs.Assembled.{scheduled_machine, J, waking, chose, C, chosen_after, runs, l, kept, s, is_settled}
use Rattle.model.proofs.WokenHere.{woken_entry}
use Rattle.model.proofs.After.{tidied, in_charge_is, still_present, idle_same, lasts_after, queued_after}

module _ (turn : Turn) where
  abbrev k : ℕ
  k = turn.k

  abbrev time : ℕ
  time = turn.time

  abbrev M : Machine
  M = turn.M

  abbrev S : Sound M
  S = turn.sound

  abbrev T : Tidy M
  T = turn.tidy

  abbrev P : Present M k
  P = turn.present

  abbrev pub M' : Machine
  M' = scheduled_machine k time M

  abbrev pub h : ℕ
  h = (cpu_at M k).block.sched_ctxt

  abbrev steal_of : Stealing
  steal_of = l turn

  -- in charge, or queued: both in full
  kept_in_charge : (x : ℕ) → in_charge k time M M' ≡ x → Kept k time M M' x
  kept_in_charge x m =
      put_in_charge k (record { present = still_present turn; named = m })
      (λ e j q z. (tidied turn).in_charge_not_queued e j k q (still_present turn) (z ∙ sym m))

  kept_queued : (x : ℕ) → Has x (on k (s turn).cpu.queue (queue_list steal_of.cpus)) → Kept k time M M' x
  kept_queued x (e, i, g, m) =
      let (p, a) = queued_at M' e i q in
      queued_once e i p a m (λ f j r b z. (tidied turn).one_entry f e j i r p b a (z ∙ sym m)) (λ j b. (tidied turn).in_charge_not_queued e i j q b.present (m ∙ sym b.named))
    where
      q : Queued M' e i
      q = queued_after turn e i g

  pub nobody_lost : (x : ℕ) → IsContext M' x → Live M' x → Runnable M' x → ((j : ℕ) → Idle M' x j → ⊥) → QueuedOrInCharge k time M x → Kept k time M M' x
  nobody_lost x a live run idle w = go w
    where
      lasting_is : lasting (context M' x) ≡ lasting (at (s turn) x)
      lasting_is = lasts_after turn x

      status_is : (context M' x).status ≡ (at (C turn) x).status
      status_is = ap (λ (z : Lasting). z.status) lasting_is ∙ (is_settled turn).status x ∙ (kept turn).status x

      gone_as : (context M' x).gone ≡ (at (C turn) x).gone
      gone_as =
          ap (λ (z : Lasting). z.gone) lasting_is
          ∙ gone_of ((is_settled turn).inv.same x ∙ sym ((chosen_after turn).inv.same x))

      not_lost : Lost (at (C turn) x) → ⊥
      not_lost (inl g) = never (gone_as ∙ g) live
      not_lost (inr r) = never run (ap is_runnable status_is ∙ r)

      won : steal_of.winner ≡ Some x → Kept k time M M' x
      won z = kept_in_charge x (in_charge_is turn ∙ ap (successor k M (runs turn)) z)

      later : Has x (on k steal_of.state.cpu.queue (queue_list steal_of.cpus)) ⊎ (steal_of.winner ≡ Some x) → Kept k time M M' x
      later (inl g) = kept_queued x ((is_settled turn).has x g)
      later (inr z) = won z

      after : Has x (on k (C turn).cpu.queue (queues M)) ⊎ (Lost (at (C turn) x) ⊎ ((chose turn).winner ≡ Some x)) → Kept k time M M' x
      after (inl g) = later ((kept turn).has x g)
      after (inr (inl g)) = absurd (not_lost g)
      after (inr (inr z)) = won ((kept turn).keeps x z)

      is_sched : (J turn).cpu.block.sched_ctxt ≡ (cpu_at M k).block.sched_ctxt
      is_sched = ap (λ (z : Roles). z.sched) (waking turn).roles_kept

      -- the holder, by whether it runs and who won
      holder : h ≡ x → (b : Bool) (w : Option ℕ) → runs turn ≡ b → steal_of.winner ≡ w → Kept k time M M' x
      holder m true None p q = kept_in_charge x (in_charge_is turn ∙ ap (λ b. successor k M b steal_of.winner) p ∙ ap (successor k M true) q ∙ m)
      holder m true (Some y) p q = kept_queued x (subst (λ z. Has z (on k (s turn).cpu.queue (queue_list steal_of.cpus))) m ((is_settled turn).back (ap is_some q) p))
      holder m false w p q =
          by_test (is_idle (J turn))
          (λ t. absurd (idle k (record {
            present = still_present turn;
            named = idle_same turn
                ∙ sym (ap (λ (z : Roles). z.idle) (waking turn).roles_kept) ∙ sym (eqb-true _ _ t) ∙ is_sched ∙ m;
          })))
          (λ t. by_test (is_runnable (at (J turn) (J turn).cpu.block.sched_ctxt).status)
          (λ u. never {b = false} (sym p ∙ and_true (not (is_idle (J turn))) _ (ap not t) u) refl)
          (λ u. never run
          (ap is_runnable (status_is ∙ (chosen_after turn).frame x (subst (λ z. Without z (on k (J turn).cpu.queue (queues M))) (is_sched ∙ m) (holder_out k time M S T P (J turn) (waking turn))))
          ∙ subst (λ z. is_runnable (at (J turn) z).status ≡ false) (is_sched ∙ m) u)))

      go : QueuedOrInCharge k time M x → Kept k time M M' x
      go (was_queued e i q m) = after ((chosen_after turn).kept x ((waking turn).has x (e, i, q.is_in, m)))
      go (was_woken a) = let (e, i, m) = woken_entry k time M S T turn.own x a in after ((chosen_after turn).kept x (e, k, rw (eq-eqb k k refl) i, m))
      go (was_in_charge m) = holder m (runs turn) steal_of.winner refl refl
