-- An accepted decision: the equality on every present CPU, by the ticket's conditions; with the stronger word the conditions are kept too.
use Rattle.std.specs.Prelude.{None, Option, Some}
use mathlib.Core.Path.{◌≡◌, refl, subst, sym, ap, ◌∙◌}
use mathlib.Core.Bool.{Bool, true, false}
use mathlib.Core.Logic.{◌⊎◌, inl, inr, ◌≢◌}
use Prim.Native.Nat.{ℕ}
use lib.Dec.{eqb}
use borrow.Author.Tests.{eqb-true, eqb-false}
use Rattle.context.specs.Status.{is_runnable}
use Rattle.weights.specs.Weights.{weight}
use Rattle.entries.specs.declared.Entry.{Entry}
use Rattle.machine.specs.Machine.{Machine, cpu_at}
use Rattle.model.specs.Tidy.{Sound, Tidy, Present, Queued, InCharge, Idle, Live, IsContext, context}
use Rattle.model.specs.Accepted.{Call, outcome, decides, Accepted, ServesOwn}
use Rattle.model.proofs.Cases.{by_test, never}
use Rattle.model.proofs.Lists.{In}
use Rattle.model.proofs.Queues.{Has, gone_of, on}
use Rattle.model.proofs.Turn.{Turn}
use Rattle.model.proofs.CpuQueues.{queue_list}
use Rattle.model.proofs.Settled.{successor}
use Rattle.model.proofs.TidyAfter.{Ending, sched_there, was_present, idle_is, gone_is, count_is, in_queue, present_is}
use Rattle.model.proofs.Assembled.{scheduled_machine, runs as running, l, in_range, s, is_settled, c, ending}
use Rattle.model.proofs.After.{in_charge_is, still_present, queued_after}
use Rattle.model.proofs.Demand.{call_decides}
use Rattle.model_weights.specs.Weighed.{Active, NotIdle, MayBeActive, queued, runs, stopped, Weighed, WeighedAlways, Agree}
use Rattle.model_weights.proofs.Weighing.{Alive}
use Rattle.model_weights.proofs.SettledWeights.{Remains}
use Rattle.model_weights.proofs.EndWeights.{settled_so, marks, prios, still, winner_active, holder_active, idle_unmarked, agrees_after}

module _ (turn : Turn) (W : WeighedAlways turn.M) (A : Agree turn.M) where
  abbrev k : ℕ
  k = turn.k

  abbrev time : ℕ
  time = turn.time

  abbrev M : Machine
  M = turn.M

  abbrev S : Sound M
  S = turn.sound

  abbrev T : Tidy M
  T = turn.tidy

  abbrev P : Present M k
  P = turn.present

  abbrev M' : Machine
  M' = scheduled_machine k time M

  E : Ending k time M S T P (in_range turn) (c turn) (s turn) (l turn).cpus M'
  E = ending turn

  alive : (x : ℕ) → Live M' x → Alive M.contexts x
  alive x b = sym (gone_is k time M S T P (in_range turn) (c turn) (s turn) (l turn).cpus M' E x ∙ gone_of ((is_settled turn).inv.same x)) ∙ b

  is_in : (e : Entry) (i : ℕ) → Queued M' e i → In e (on k (s turn).cpu.queue (queue_list (l turn).cpus) i)
  is_in = in_queue k time M S T P (in_range turn) (c turn) (s turn) (l turn).cpus M' E

  was_there : (i : ℕ) → Present M' i → Present M i
  was_there = was_present k time M S T P (in_range turn) (c turn) (s turn) (l turn).cpus M' E

  idle_word : (i : ℕ) → (cpu_at M' i).block.idle_ctxt ≡ (cpu_at M i).block.idle_ctxt
  idle_word = idle_is k time M S T P (in_range turn) (c turn) (s turn) (l turn).cpus M' E

  sched_word : (i : ℕ) → i ≢ k → (cpu_at M' i).block.sched_ctxt ≡ (cpu_at M i).block.sched_ctxt
  sched_word = sched_there k time M S T P (in_range turn) (c turn) (s turn) (l turn).cpus M' E

  idle_inactive : (x i : ℕ) → Idle M' x i → (context M' x).is_active ≡ false
  idle_inactive x i d =
      subst (λ y. (context M' y).is_active ≡ false) (sym (idle_word i) ∙ d.named) (idle_unmarked turn W.weighed A i (was_there i d.present))

  -- one in charge that is active may be so
  in_charge_may : (x i : ℕ) → InCharge M' x i → Active M' x → MayBeActive M' x
  in_charge_may x i d a =
      by_test (is_runnable (context M' x).status) (λ t. runs i d t (λ j b. never a (idle_inactive x j b))) (λ t. stopped i d t)

  may : (x : ℕ) → IsContext M' x → Active M' x → MayBeActive M' x
  may x r a =
      go ((settled_so turn W.weighed A).weights.only x
      (rw (count_is k time M S T P (in_range turn) (c turn) (s turn) (l turn).cpus M' E ∙ (is_settled turn).inv.count) at r)
      (sym (marks turn W.weighed A x) ∙ a))
    where
      go : (Alive M.contexts x × Has x (on k (s turn).cpu.queue (queue_list (l turn).cpus))) ⊎ Remains k M (running turn) (l turn).winner x → MayBeActive M' x
      go (inl (b, (e, i, h, z))) =
          queued e i (queued_after turn e i h) z
          (gone_is k time M S T P (in_range turn) (c turn) (s turn) (l turn).cpus M' E x ∙ gone_of ((is_settled turn).inv.same x) ∙ b)
      go (inr (inl (j, d, o))) =
          in_charge_may x j
          (record { present = present_is k time M S T P (in_range turn) (c turn) (s turn) (l turn).cpus M' E j ∙ d.present; named = sched_word j o ∙ d.named }) a
      go (inr (inr z)) = in_charge_may x k (record { present = still_present turn; named = in_charge_is turn ∙ sym z }) a

  -- who is in charge here is active, or idle
  here_active : (r : Bool) (o : Option ℕ) → (running turn) ≡ r → (l turn).winner ≡ o → NotIdle M' (successor k M r o) → Active M' (successor k M r o)
  here_active r (Some x) z y d = winner_active turn W.weighed A x y
  here_active true None z y d = holder_active turn W.weighed A z
  here_active false None z y d = absurd (d k (record { present = still_present turn; named = idle_word k }))

  in_charge_marked : (x i : ℕ) → InCharge M' x i → NotIdle M' x → Active M' x
  in_charge_marked x i d o =
      by_test (eqb i k)
      (λ t. let z : c turn ≡ x = sym (in_charge_is turn) ∙ ap (λ j. (cpu_at M' j).block.sched_ctxt) (sym (eqb-true i k t)) ∙ d.named in
      subst (λ y. NotIdle M' y → Active M' y) z (here_active (running turn) (l turn).winner refl refl) o)
      (λ t. let b : InCharge M x i = record { present = was_there i d.present; named = sym (sched_word i (eqb-false i k t)) ∙ d.named } in
      still turn W.weighed A x (i, b.present, inl (inl (eqb-false i k t), sym b.named))
      ∙ W.in_charge_active x i b (λ j g. o j (record { present = present_is k time M S T P (in_range turn) (c turn) (s turn) (l turn).cpus M' E j ∙ g.present; named = idle_word j ∙ g.named })))

  pub weighed_after : WeighedAlways M'
  weighed_after =
      record {
        weighed = record {
          entry_weight = λ e i q b.
              (settled_so turn W.weighed A).weights.weighs e i (is_in e i q) (alive _ b) ∙ ap weight (sym (prios turn W.weighed A e.context_ref));
          queued_active = λ e i q b. marks turn W.weighed A e.context_ref ∙ (settled_so turn W.weighed A).weights.active e i (is_in e i q) (alive _ b);
          in_charge_active = λ x i d r o. in_charge_marked x i d o;
          nobody_else = may;
          idle_not_active = idle_inactive;
        };
        in_charge_active = in_charge_marked;
      }

-- the stored total of every present CPU stays the weight added up, that of a robbed one too
pub decides_agree : (call : Call) (k time : ℕ) (M : Machine) → Sound M → Tidy M → Present M k → decides k time M call ≡ true → ServesOwn k time M → Weighed M → Agree M
    → Agree (outcome call k time M).machine
decides_agree call k time M S T P d own W A =
    subst Agree (sym (call_decides k time call M d)) (agrees_after (record { k = k; time = time; M = M; sound = S; tidy = T; present = P; own = own }) W A)

pub decision_agrees : (call : Call) (k time : ℕ) (M : Machine) → Sound M → Tidy M → Accepted k time M call → ServesOwn k time M → Weighed M → Agree M
    → Agree (outcome call k time M).machine
decision_agrees call k time M S T a own W A = decides_agree call k time M S T a.present a.decision own W A
