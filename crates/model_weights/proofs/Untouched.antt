-- A call that writes nothing of what tidy and the weights read keeps them all; it leaves the remainders too.
use Rattle.std.specs.Prelude.{if◌then◌else◌}
use mathlib.Core.Path.{◌≡◌, subst, sym, ap, ◌∙◌}
use mathlib.Core.Bool.{Bool, true, false}
use mathlib.Core.List.{List}
use Prim.Native.Nat.{ℕ, ◌+◌}
use lib.Dec.{eqb, ltb}
use lib.ListN.{length, set}
use lib.Seq.{get_or-set_same, get_or-set_other, set_out}
use borrow.Author.Tests.{eqb-true, eqb-false, ltb-true, ltb-false}
use Rattle.columns.specs.Common.{In}
use Rattle.context.specs.declared.Context.{Context}
use Rattle.context.specs.Status.{is_runnable}
use Rattle.weights.specs.Weights.{weight}
use Rattle.entries.specs.declared.Entry.{Entry}
use Rattle.percpu.specs.Cpu.{Cpu}
use Rattle.machine.specs.Machine.{Machine, cpu_at, no_cpu}
use Rattle.model.specs.Tidy.{At, Tidy, Present, Queued, QueuedAt, InCharge, Idle, context}
use Rattle.model.proofs.Cases.{by_test, never}
use Rattle.model.proofs.Queues.{Run, run, Fixed, fixed, agrees_run}
use Rattle.model.proofs.Ended.{Standing, standing}
use Rattle.model_weights.specs.Weighed.{Active, NotIdle, MayBeActive, queued, runs, stopped, WeighedAlways, Agree}
use Rattle.model_weights.proofs.Sums.{added, held_weight, total_is}

-- a view of a record, and of a CPU
pub record Seen : Type 0 where
  pub its_run : Run
  pub its_fixed : Fixed
  pub is_active : Bool

abbrev pub seen : Context → Seen
seen c = record { its_run = run c; its_fixed = fixed c; is_active = c.is_active }

pub record Watched : Type 0 where
  pub stands : Standing
  pub sched : ℕ
  pub remainder : ℕ

abbrev pub watched : Cpu → Watched
watched p = record { stands = standing p; sched = p.block.sched_ctxt; remainder = p.remainder }

pub record Untouched (M M' : Machine) : Type 0 where
  pub count : length M'.contexts ≡ length M.contexts
  pub contexts : (x : ℕ) → seen (context M' x) ≡ seen (context M x)
  pub cpus : (i : ℕ) → watched (cpu_at M' i) ≡ watched (cpu_at M i)

pub untouched_then : {L M N : Machine} → Untouched L M → Untouched M N → Untouched L N
untouched_then a b = record { count = b.count ∙ a.count; contexts = λ x. b.contexts x ∙ a.contexts x; cpus = λ i. b.cpus i ∙ a.cpus i }

-- a CPU that is put back
pub cpus_set : (M : Machine) (cs : List Context) (k : ℕ) (p : Cpu) → watched p ≡ watched (cpu_at M k) → (i : ℕ)
    → watched (cpu_at (record { contexts = cs; cpus = set M.cpus k p }) i) ≡ watched (cpu_at M i)
unfolding cpu_at
cpus_set M cs k p e i =
    by_test (eqb i k)
    (λ t. let z : i ≡ k = eqb-true i k t in
    by_test (ltb k (length M.cpus)) (λ r. rw (z, get_or-set_same M.cpus k p no_cpu (ltb-true k _ r)) e) (λ r. rw (set_out M.cpus k p (ltb-false k _ r))))
    (λ t. rw (get_or-set_other M.cpus k i p no_cpu (eqb-false i k t)))

module _ (M M' : Machine) (u : Untouched M M') where
  present_is : (i : ℕ) → (cpu_at M' i).block.present ≡ (cpu_at M i).block.present
  present_is i = ap (λ (w : Watched). w.stands.present) (u.cpus i)

  idle_is : (i : ℕ) → (cpu_at M' i).block.idle_ctxt ≡ (cpu_at M i).block.idle_ctxt
  idle_is i = ap (λ (w : Watched). w.stands.idle) (u.cpus i)

  queue_is : (i : ℕ) → (cpu_at M' i).queue ≡ (cpu_at M i).queue
  queue_is i = ap (λ (w : Watched). w.stands.queue) (u.cpus i)

  sched_is : (i : ℕ) → (cpu_at M' i).block.sched_ctxt ≡ (cpu_at M i).block.sched_ctxt
  sched_is i = ap (λ (w : Watched). w.sched) (u.cpus i)

  was_present : (i : ℕ) → Present M' i → Present M i
  was_present i p = sym (present_is i) ∙ p

  was_queued : (e : Entry) (i : ℕ) → Queued M' e i → Queued M e i
  was_queued e i q = record { present = was_present i q.present; is_in = subst (In e) (queue_is i) q.is_in }

  still_queued : (e : Entry) (i : ℕ) → Queued M e i → Queued M' e i
  still_queued e i q = record { present = present_is i ∙ q.present; is_in = subst (In e) (sym (queue_is i)) q.is_in }

  was_at : (e : Entry) (i p : ℕ) → QueuedAt M' e i p → QueuedAt M e i p
  was_at e i p q = record { present = was_present i q.present; stands = subst (λ l. At e l p) (queue_is i) q.stands }

  was_in_charge : (x i : ℕ) → InCharge M' x i → InCharge M x i
  was_in_charge x i c = record { present = was_present i c.present; named = sym (sched_is i) ∙ c.named }

  still_in_charge : (x i : ℕ) → InCharge M x i → InCharge M' x i
  still_in_charge x i c = record { present = present_is i ∙ c.present; named = sched_is i ∙ c.named }

  was_idle : (x i : ℕ) → Idle M' x i → Idle M x i
  was_idle x i d = record { present = was_present i d.present; named = sym (idle_is i) ∙ d.named }

  still_idle : (x i : ℕ) → Idle M x i → Idle M' x i
  still_idle x i d = record { present = present_is i ∙ d.present; named = idle_is i ∙ d.named }

  fixed_is : (x : ℕ) → fixed (context M' x) ≡ fixed (context M x)
  fixed_is x = ap (λ (w : Seen). w.its_fixed) (u.contexts x)

  gone_is : (x : ℕ) → (context M' x).gone ≡ (context M x).gone
  gone_is x = ap (λ (f : Fixed). f.gone) (fixed_is x)

  scheduled_is : (x : ℕ) → (context M' x).currently_scheduled ≡ (context M x).currently_scheduled
  scheduled_is x = ap (λ (f : Fixed). f.currently_scheduled) (fixed_is x)

  prio_is : (x : ℕ) → (context M' x).prio ≡ (context M x).prio
  prio_is x = ap (λ (f : Fixed). f.prio) (fixed_is x)

  run_is : (x : ℕ) → run (context M' x) ≡ run (context M x)
  run_is x = ap (λ (w : Seen). w.its_run) (u.contexts x)

  active_is : (x : ℕ) → (context M' x).is_active ≡ (context M x).is_active
  active_is x = ap (λ (w : Seen). w.is_active) (u.contexts x)

  pub untouched_tidy : Tidy M → Tidy M'
  untouched_tidy T =
      record {
        one_entry = λ e f i j p q a b z. T.one_entry e f i j p q (was_at e i p a) (was_at f j q b) z;
        agrees = λ e i q l. agrees_run _ _ e (run_is e.context_ref) (T.agrees e i (was_queued e i q) (sym (gone_is e.context_ref) ∙ l));
        no_entry_no_key = λ x r l n.
            ap (λ (y : Run). y.has_key) (run_is x) ∙ T.no_entry_no_key x (rw u.count at r) (sym (gone_is x) ∙ l) (λ e i q. n e i (still_queued e i q));
        idle_not_queued = λ e i j q p z. T.idle_not_queued e i j (was_queued e i q) (was_present j p) (z ∙ idle_is j);
        in_charge_not_queued = λ e i j q p z. T.in_charge_not_queued e i j (was_queued e i q) (was_present j p) (z ∙ sched_is j);
        one_in_charge = λ i j p q z. T.one_in_charge i j (was_present i p) (was_present j q) (sym (sched_is i) ∙ z ∙ sched_is j);
        one_idle = λ i j p q z. T.one_idle i j (was_present i p) (was_present j q) (sym (idle_is i) ∙ z ∙ idle_is j);
        idle_not_userspace = λ i p.
            subst (λ y. (context M' y).userspace ≡ false) (sym (idle_is i))
            (ap (λ (f : Fixed). f.userspace) (fixed_is (cpu_at M i).block.idle_ctxt) ∙ T.idle_not_userspace i (was_present i p));
        idle_at_home = λ i j p q z. T.idle_at_home i j (was_present i p) (was_present j q) (sym (sched_is i) ∙ z ∙ idle_is j);
        scheduled_if = λ i p.
            subst (λ y. (context M' y).currently_scheduled ≡ true) (sym (sched_is i)) (scheduled_is (cpu_at M i).block.sched_ctxt ∙ T.scheduled_if i (was_present i p));
        scheduled_only = λ x r t. let (i, c) = T.scheduled_only x (rw u.count at r) (sym (scheduled_is x) ∙ t) in (i, still_in_charge x i c);
      }

  pub untouched_agree : Agree M → Agree M'
  untouched_agree A i p =
      ap (λ (w : Watched). w.stands.total_weight) (u.cpus i) ∙ A i (was_present i p) ∙ total_is M i
      ∙ sym (total_is M' i ∙ ap (λ (w : Watched). held_weight (context M' w.sched) + added w.stands.queue) (u.cpus i)
      ∙ ap (λ y. y + added (cpu_at M i).queue) (held (cpu_at M i).block.sched_ctxt))
    where
      held : (x : ℕ) → held_weight (context M' x) ≡ held_weight (context M x)
      held x = ap (λ b. if b then weight (context M' x).prio else 0) (active_is x) ∙ ap (λ y. if (context M x).is_active then weight y else 0) (prio_is x)

  pub untouched_weighed : WeighedAlways M → WeighedAlways M'
  untouched_weighed W =
      record {
        weighed = record {
          entry_weight = λ e i q l. W.weighed.entry_weight e i (was_queued e i q) (sym (gone_is e.context_ref) ∙ l) ∙ ap weight (sym (prio_is e.context_ref));
          queued_active = λ e i q l. active_is e.context_ref ∙ W.weighed.queued_active e i (was_queued e i q) (sym (gone_is e.context_ref) ∙ l);
          in_charge_active = λ x i c r n. marked x i c n;
          nobody_else = λ x r a. go x a (W.weighed.nobody_else x (rw u.count at r) (sym (active_is x) ∙ a));
          idle_not_active = unmarked;
        };
        in_charge_active = marked;
      }
    where
      marked : (x i : ℕ) → InCharge M' x i → NotIdle M' x → Active M' x
      marked x i c n = active_is x ∙ W.in_charge_active x i (was_in_charge x i c) (λ j d. n j (still_idle x j d))

      unmarked : (x i : ℕ) → Idle M' x i → (context M' x).is_active ≡ false
      unmarked x i d = active_is x ∙ W.weighed.idle_not_active x i (was_idle x i d)

      in_charge : (x i : ℕ) → Active M' x → InCharge M x i → MayBeActive M' x
      in_charge x i a c =
          by_test (is_runnable (context M' x).status) (λ t. runs i (still_in_charge x i c) t (λ j d. never a (unmarked x j d))) (λ t. stopped i (still_in_charge x i c) t)

      go : (x : ℕ) → Active M' x → MayBeActive M x → MayBeActive M' x
      go x a (queued e i q z l) = queued e i (still_queued e i q) z (gone_is x ∙ l)
      go x a (runs i c r n) = in_charge x i a c
      go x a (stopped i c r) = in_charge x i a c
