-- The machine after the call is tidy.
use mathlib.Core.Path.{◌≡◌, refl, subst, sym, ap, ◌∙◌}
use mathlib.Core.Bool.{true, false}
use mathlib.Core.List.{List}
use mathlib.Core.Logic.{◌≢◌}
use Prim.Native.Nat.{ℕ, ◌<◌}
use lib.Dec.{eqb}
use lib.ListN.{length, get_or}
use lib.Seq.{get_or-set_same, get_or-set_other}
use borrow.Author.Tests.{eqb-true, eqb-false}
use Rattle.entries.specs.declared.Entry.{Entry}
use Rattle.percpu.specs.Cpu.{Cpu}
use Rattle.machine.specs.Machine.{Machine, context_at, cpu_at, no_cpu}
use Rattle.model.specs.State.{State, at}
use Rattle.model.specs.Tidy.{Sound, Tidy, Present, Queued, InCharge, IsContext, context}
use Rattle.model.proofs.Cases.{by_test, never}
use Rattle.model.proofs.Lists.{In}
use Rattle.model.proofs.Queues.{Fixed, Inv, on, agrees_run}
use Rattle.model.proofs.Places.{one_place}
use Rattle.model.proofs.Before.{Roles, roles, queues}
use Rattle.model.proofs.CpuQueues.{queue_list}
use Rattle.model.proofs.Settled.{Fit}
use Rattle.model.proofs.Ended.{Lasting, lasting, Standing, standing, Finished}

module _ (k time : ℕ) (M : Machine) (S : Sound M) (T : Tidy M) (P : Present M k) (r : k < length M.cpus) (c : ℕ) (s : State) (cpus : List Cpu)
    (M' : Machine) where
  -- the end of the call, as far as tidy needs it
  pub record Ending : Type 0 where
    pub inv : Inv (Fit k M c) M.contexts s.contexts (on k s.cpu.queue (queue_list cpus))
    pub roles_kept : roles s.cpu ≡ roles (cpu_at M k)
    pub count : length cpus ≡ length M.cpus
    pub others : (i : ℕ) → i ≢ k → roles (get_or cpus i no_cpu) ≡ roles (cpu_at M i)
    pub absent : (i : ℕ) → (cpu_at M i).block.present ≡ false → queue_list cpus i ≡ queues M i
    pub finished : Finished k time s c cpus M'
    pub not_elsewhere : (j : ℕ) → Present M j → j ≢ k → c ≢ (cpu_at M j).block.sched_ctxt
    pub idle_at_home : (j : ℕ) → Present M j → c ≡ (cpu_at M j).block.idle_ctxt → k ≡ j

  module _ (z : Ending) where
    e : State
    e = z.finished.state

    pub cpu_here : cpu_at M' k ≡ z.finished.state.cpu
    unfolding cpu_at
    cpu_here = ap (λ (l : List Cpu). get_or l k no_cpu) z.finished.cpus_are ∙ get_or-set_same cpus k z.finished.state.cpu no_cpu (rw z.count r)

    pub cpu_there : (i : ℕ) → i ≢ k → cpu_at M' i ≡ get_or cpus i no_cpu
    unfolding cpu_at
    cpu_there i n = ap (λ (l : List Cpu). get_or l i no_cpu) z.finished.cpus_are ∙ get_or-set_other cpus k i z.finished.state.cpu no_cpu n

    pub here_stands : standing (cpu_at M' k) ≡ standing s.cpu
    here_stands = ap standing cpu_here ∙ z.finished.ends.stands

    pub sched_here : (cpu_at M' k).block.sched_ctxt ≡ c
    sched_here = ap (λ (p : Cpu). p.block.sched_ctxt) cpu_here ∙ z.finished.ends.in_charge

    pub sched_there : (i : ℕ) → i ≢ k → (cpu_at M' i).block.sched_ctxt ≡ (cpu_at M i).block.sched_ctxt
    sched_there i n = ap (λ (p : Cpu). p.block.sched_ctxt) (cpu_there i n) ∙ ap (λ (q : Roles). q.sched) (z.others i n)

    pub queue_is : (i : ℕ) → (cpu_at M' i).queue ≡ on k s.cpu.queue (queue_list cpus) i
    queue_is i =
        by_test (eqb i k) (λ t. rw t (ap (λ j. (cpu_at M' j).queue) (eqb-true i k t) ∙ ap (λ (q : Standing). q.queue) here_stands))
        (λ t. rw t (ap (λ (p : Cpu). p.queue) (cpu_there i (eqb-false i k t))))

    pub present_is : (i : ℕ) → (cpu_at M' i).block.present ≡ (cpu_at M i).block.present
    present_is i =
        by_test (eqb i k)
        (λ t. subst (λ j. (cpu_at M' j).block.present ≡ (cpu_at M j).block.present) (sym (eqb-true i k t))
        (ap (λ (q : Standing). q.present) here_stands ∙ ap (λ (q : Roles). q.present) z.roles_kept))
        (λ t. ap (λ (p : Cpu). p.block.present) (cpu_there i (eqb-false i k t)) ∙ ap (λ (q : Roles). q.present) (z.others i (eqb-false i k t)))

    pub idle_is : (i : ℕ) → (cpu_at M' i).block.idle_ctxt ≡ (cpu_at M i).block.idle_ctxt
    idle_is i =
        by_test (eqb i k)
        (λ t. subst (λ j. (cpu_at M' j).block.idle_ctxt ≡ (cpu_at M j).block.idle_ctxt) (sym (eqb-true i k t))
        (ap (λ (q : Standing). q.idle) here_stands ∙ ap (λ (q : Roles). q.idle) z.roles_kept))
        (λ t. ap (λ (p : Cpu). p.block.idle_ctxt) (cpu_there i (eqb-false i k t)) ∙ ap (λ (q : Roles). q.idle) (z.others i (eqb-false i k t)))

    pub was_present : (i : ℕ) → Present M' i → Present M i
    was_present i p = sym (present_is i) ∙ p

    pub lasts : (y : ℕ) → lasting (context M' y) ≡ lasting (at s y)
    lasts y = ap (λ cs. lasting (context_at cs y)) z.finished.contexts ∙ z.finished.ends.lasts y

    pub count_is : length M'.contexts ≡ length s.contexts
    count_is = ap length z.finished.contexts ∙ z.finished.ends.count

    marks : (y : ℕ) → (context M' y).currently_scheduled ≡ (at z.finished.state y).currently_scheduled
    marks y = ap (λ cs. (context_at cs y).currently_scheduled) z.finished.contexts

    pub gone_is : (y : ℕ) → (context M' y).gone ≡ (at s y).gone
    gone_is y = ap (λ (q : Lasting). q.gone) (lasts y)

    pub in_queue : (d : Entry) (i : ℕ) → Queued M' d i → In d (on k s.cpu.queue (queue_list cpus) i)
    in_queue d i q = rw (queue_is i) at q.is_in

    pub queued : (d : Entry) (i : ℕ) → In d (on k s.cpu.queue (queue_list cpus) i) → Queued M' d i
    queued d i h = record { present = present_is i ∙ pr; is_in = rw (queue_is i) h }
      where
        pr : (cpu_at M i).block.present ≡ true
        pr =
            by_test (eqb i k) (λ t. subst (λ j. Present M j) (sym (eqb-true i k t)) P)
            (λ t. by_test (cpu_at M i).block.present (λ u. u)
            (λ u. absurd (rw (z.absent i u ∙ S.absent_empty i u) at (rw t at h))))

    h : ℕ
    h = (cpu_at M k).block.sched_ctxt

    is_h : s.cpu.block.sched_ctxt ≡ (cpu_at M k).block.sched_ctxt
    is_h = ap (λ (q : Roles). q.sched) z.roles_kept

    -- a fact of who is in charge of a present CPU, here and elsewhere
    sched_cases : (Q : ℕ → ℕ → Type 0) (i : ℕ) → Present M' i → Q k c → (i ≢ k → Present M i → Q i (cpu_at M i).block.sched_ctxt) → Q i (cpu_at M' i).block.sched_ctxt
    sched_cases Q i p a b =
        by_test (eqb i k) (λ t. subst (λ j. Q j (cpu_at M' j).block.sched_ctxt) (sym (eqb-true i k t)) (rw sched_here a))
        (λ t. rw (sched_there i (eqb-false i k t)) (b (eqb-false i k t) (was_present i p)))

    scheduled_old : (y : ℕ) → y ≢ c → y ≢ (cpu_at M k).block.sched_ctxt → (context M' y).currently_scheduled ≡ (context M y).currently_scheduled
    scheduled_old y m o =
        marks y ∙ z.finished.ends.others y m (λ w. o (w ∙ is_h)) ∙ ap (λ (f : Fixed). f.currently_scheduled) (z.inv.same y)

    pub tidy_after : Tidy M'
    tidy_after =
        record {
          one_entry = one_place M' (λ i. rw (queue_is i) (z.inv.sorted i)) (λ d f i j p q m. z.inv.one d f i j (in_queue d i p) (in_queue f j q) m);
          agrees = λ d i p l.
              agrees_run _ _ d (ap (λ (q : Lasting). q.runs) (lasts d.context_ref))
              (z.inv.agrees d i (in_queue d i p) (sym (gone_is d.context_ref) ∙ l));
          no_entry_no_key = λ x a l w.
              by_test (context M' x).has_queue_key
              (λ t. absurd (z.inv.keyed_queued x (rw count_is at a) (sym (gone_is x) ∙ l) (sym (ap (λ (q : Lasting). q.runs.has_key) (lasts x)) ∙ t)
              (λ d i g. w d i (queued d i g))))
              (λ t. t);
          idle_not_queued = λ d i j p q. rw (idle_is j) ((z.inv.free d i (in_queue d i p)).not_idle j (was_present j q));
          in_charge_not_queued = λ d i j p q.
              sched_cases (λ a y. d.context_ref ≢ y) j q (z.inv.free d i (in_queue d i p)).not_in_charge
              (λ o u. (z.inv.free d i (in_queue d i p)).not_elsewhere j u o);
          one_in_charge = λ i j p q.
              sched_cases (λ a y. y ≡ (cpu_at M' j).block.sched_ctxt → a ≡ j) i p
              (sched_cases (λ b w. c ≡ w → k ≡ b) j q (λ m. refl) (λ o u m. absurd (z.not_elsewhere j u o m)))
              (λ o u. sched_cases (λ b w. (cpu_at M i).block.sched_ctxt ≡ w → i ≡ b) j q (λ m. absurd (z.not_elsewhere i u o (sym m)))
              (λ o' u' m. T.one_in_charge i j u u' m));
          one_idle = λ i j p q m. T.one_idle i j (was_present i p) (was_present j q) (sym (idle_is i) ∙ m ∙ idle_is j);
          idle_not_userspace = λ i p.
              subst (λ y. (context M' y).userspace ≡ false) (sym (idle_is i))
              (ap (λ (q : Lasting). q.userspace) (lasts (cpu_at M i).block.idle_ctxt)
              ∙ ap (λ (f : Fixed). f.userspace) (z.inv.same (cpu_at M i).block.idle_ctxt) ∙ T.idle_not_userspace i (was_present i p));
          idle_at_home = λ i j p q.
              rw (idle_is j)
              (sched_cases (λ a y. y ≡ (cpu_at M j).block.idle_ctxt → a ≡ j) i p (z.idle_at_home j (was_present j q))
              (λ o u m. T.idle_at_home i j u (was_present j q) m));
          scheduled_if = λ i p.
              sched_cases (λ a y. (context M' y).currently_scheduled ≡ true) i p (marks c ∙ z.finished.ends.scheduled)
              (λ o u. scheduled_old _ (λ m. z.not_elsewhere i u o (sym m)) (λ m. o (T.one_in_charge i k u P m)) ∙ T.scheduled_if i u);
          scheduled_only = λ x a t. only x a t;
        }
      where
        only : (x : ℕ) → IsContext M' x → (context M' x).currently_scheduled ≡ true → (i : ℕ) × InCharge M' x i
        only x a t =
            by_test (eqb x c) (λ m. (k, record { present = present_is k ∙ P; named = sched_here ∙ sym (eqb-true x c m) }))
            (λ m. by_test (eqb x (cpu_at M k).block.sched_ctxt)
            (λ w. let y : x ≡ (cpu_at M k).block.sched_ctxt = eqb-true x (cpu_at M k).block.sched_ctxt w in
            never t (subst (λ b. (context M' b).currently_scheduled ≡ false) (is_h ∙ sym y) (marks s.cpu.block.sched_ctxt ∙ z.finished.ends.left_slice (λ v. eqb-false x c m (y ∙ sym is_h ∙ v)))))
            (λ w. old (eqb-false x (cpu_at M k).block.sched_ctxt w)
            (T.scheduled_only x (rw (count_is ∙ z.inv.count) at a) (sym (scheduled_old x (eqb-false x c m) (eqb-false x (cpu_at M k).block.sched_ctxt w)) ∙ t))))
          where
            old : x ≢ (cpu_at M k).block.sched_ctxt → (i : ℕ) × InCharge M x i → (i : ℕ) × InCharge M' x i
            old o (i, q) =
                by_test (eqb i k) (λ v. absurd (o (sym q.named ∙ ap (λ b. (cpu_at M b).block.sched_ctxt) (eqb-true i k v))))
                (λ v. (i, record { present = present_is i ∙ q.present; named = sched_there i (eqb-false i k v) ∙ q.named }))
