-- A machine of which the tests are computed is tidy; so with its weights. Assumes nothing.
use mathlib.Core.Path.{◌≡◌, refl, subst, ap}
use mathlib.Core.Bool.{Bool, true, false, not, ◌&&◌, ◌||◌}
use mathlib.Core.List.{List, [], ◌∷◌}
use mathlib.Core.Logic.{◌⊎◌, inl, inr, ◌≢◌}
use Prim.Native.Nat.{ℕ}
use lib.Dec.{eqb}
use borrow.Author.Tests.{eqb-true, eq-eqb}
use Rattle.columns.specs.Common.{every, is_empty, In}
use Rattle.columns.proofs.Tests.{every_at}
use Rattle.context.specs.Status.{is_runnable}
use Rattle.weights.specs.Weights.{weight}
use Rattle.entries.specs.declared.Entry.{Entry}
use Rattle.machine.specs.Machine.{Machine}
use Rattle.model.specs.Tidy.{Tidy, Present, Queued, InCharge, Live, context}
use Rattle.model.specs.Accepted.{ServesOwn}
use Rattle.model.proofs.Cases.{by_test, never, and_both, and_true, or_either, not_is_true}
use Rattle.model.proofs.Places.{one_place}
use Rattle.total_weight.specs.TotalWeight.{total_weight_of}
use Rattle.model_weights.specs.Weighed.{Active, NotIdle, MayBeActive, queued, runs, stopped, EntryWeight, QueuedActive, InChargeActive, NobodyElse, IdleNotActive, Agree}
use Rattle.model_weights.proofs.Tests.{imp, imp_use, any, any_find, all_of, some_of, all_of_at, some_of_find}
use Rattle.model_weights.proofs.Computed.{same_entry, same_is, agrees_is, three, c, n, q, p, on, sched, idle, queued_test, Computed, in_cpus, computed_sound}

-- a test that must hold, against a fact
no_eq : (a b : ℕ) → not (eqb a b) ≡ true → a ≢ b
no_eq a b t z = never (eq-eqb a b z) (not_is_true _ t)

module _ (M : Machine) (t : Computed M) where
  found : (x : ℕ) → queued_test M x ≡ true → (e : Entry) × (i : ℕ) × Queued M e i × (e.context_ref ≡ x)
  found x h =
      let (i, a) = any_find (λ (i : ℕ). on M i && some_of (λ (e : Entry). eqb e.context_ref x) (p M i).queue) (c M) h in
      let (b, s) = and_both (on M i) (some_of (λ (e : Entry). eqb e.context_ref x) (p M i).queue) a in
      let (e, j, z) = some_of_find (λ (e : Entry). eqb e.context_ref x) (p M i).queue s in
      (e, i, record { present = b; is_in = j }, eqb-true _ _ z)

  free_of : (e : Entry) (i j : ℕ) → Queued M e i → Present M j → (not (eqb e.context_ref (idle M j)) ≡ true) × (not (eqb e.context_ref (sched M j)) ≡ true)
  free_of e i j a h =
      and_both (not (eqb e.context_ref (idle M j))) (not (eqb e.context_ref (sched M j)))
      (imp_use (on M j) _ (every_at _ (c M) j (all_of_at _ (p M i).queue (every_at _ (c M) i t.free (in_cpus M t i a.present)) e a.is_in) (in_cpus M t j h)) h)

  seats_apart : (i j : ℕ) → Present M i → Present M j
      → (imp (eqb (sched M i) (sched M j)) (eqb i j) ≡ true) × (imp (eqb (idle M i) (idle M j)) (eqb i j) ≡ true) × (imp (eqb (sched M i) (idle M j)) (eqb i j) ≡ true)
  seats_apart i j a b =
      three (imp (eqb (sched M i) (sched M j)) (eqb i j)) (imp (eqb (idle M i) (idle M j)) (eqb i j)) (imp (eqb (sched M i) (idle M j)) (eqb i j))
      (imp_use (on M i && on M j) _ (every_at _ (c M) j (every_at _ (c M) i t.apart (in_cpus M t i a)) (in_cpus M t j b)) (and_true (on M i) (on M j) a b))

  marked : (i : ℕ) → Present M i → (not (q M (idle M i)).userspace ≡ true) × ((q M (sched M i)).currently_scheduled ≡ true)
  marked i h = and_both (not (q M (idle M i)).userspace) (q M (sched M i)).currently_scheduled (imp_use (on M i) _ (every_at _ (c M) i t.marks (in_cpus M t i h)) h)

  pub computed_tidy : Tidy M
  computed_tidy =
      record {
        one_entry = one_place M (computed_sound M t).keys_rise one_value;
        agrees = λ e i a l. agrees_is _ e (imp_use (not (q M e.context_ref).gone) _ (all_of_at _ (p M i).queue (every_at _ (c M) i t.agreed (in_cpus M t i a.present)) e a.is_in) (ap not l));
        no_entry_no_key = λ x r l w. by_test (q M x).has_queue_key (λ h. absurd (keyed x l w (or_either (q M x).gone (queued_test M x) (imp_use _ _ (every_at _ (n M) x t.keyless r) h)))) (λ h. h);
        idle_not_queued = λ e i j a h. no_eq _ _ (free_of e i j a h).0;
        in_charge_not_queued = λ e i j a h. no_eq _ _ (free_of e i j a h).1;
        one_in_charge = λ i j a b z. eqb-true i j (imp_use (eqb (sched M i) (sched M j)) (eqb i j) (seats_apart i j a b).0 (eq-eqb _ _ z));
        one_idle = λ i j a b z. eqb-true i j (imp_use (eqb (idle M i) (idle M j)) (eqb i j) (seats_apart i j a b).1 (eq-eqb _ _ z));
        idle_not_userspace = λ i h. not_is_true _ (marked i h).0;
        idle_at_home = λ i j a b z. eqb-true i j (imp_use (eqb (sched M i) (idle M j)) (eqb i j) (seats_apart i j a b).2 (eq-eqb _ _ z));
        scheduled_if = λ i h. (marked i h).1;
        scheduled_only = λ x r h.
            let (i, a) = any_find (λ (i : ℕ). on M i && eqb (sched M i) x) (c M) (imp_use (q M x).currently_scheduled _ (every_at _ (n M) x t.scheduled r) h) in
            let (b, z) = and_both (on M i) (eqb (sched M i) x) a in
            (i, record { present = b; named = eqb-true _ _ z });
      }
    where
      one_value : (e f : Entry) (i j : ℕ) → Queued M e i → Queued M f j → e.context_ref ≡ f.context_ref → (e ≡ f) × (i ≡ j)
      one_value e f i j a b z =
          let u = imp_use (eqb e.context_ref f.context_ref) (same_entry e f && eqb i j)
          (all_of_at _ (p M j).queue (all_of_at _ (p M i).queue (every_at _ (c M) j (every_at _ (c M) i t.one (in_cpus M t i a.present)) (in_cpus M t j b.present)) e a.is_in) f b.is_in) (eq-eqb _ _ z) in
          let (s, g) = and_both (same_entry e f) (eqb i j) u in (same_is e f s, eqb-true i j g)

      keyed : (x : ℕ) → Live M x → ((e : Entry) (i : ℕ) → Queued M e i → e.context_ref ≢ x) → ((q M x).gone ≡ true) ⊎ (queued_test M x ≡ true) → ⊥
      keyed x l w (inl g) = never g l
      keyed x l w (inr h) = let (e, i, a, z) = found x h in w e i a z

  -- the conditions, and the equality
  pub computed_weight : every (λ (i : ℕ). all_of (λ (e : Entry). imp (not (q M e.context_ref).gone) (eqb e.weight (weight (q M e.context_ref).prio))) (p M i).queue) (c M) ≡ true → EntryWeight M
  computed_weight h e i a l =
      eqb-true _ _ (imp_use (not (q M e.context_ref).gone) _ (all_of_at _ (p M i).queue (every_at _ (c M) i h (in_cpus M t i a.present)) e a.is_in) (ap not l))

  pub computed_queued : every (λ (i : ℕ). all_of (λ (e : Entry). imp (not (q M e.context_ref).gone) (q M e.context_ref).is_active) (p M i).queue) (c M) ≡ true → QueuedActive M
  computed_queued h e i a l =
      imp_use (not (q M e.context_ref).gone) _ (all_of_at _ (p M i).queue (every_at _ (c M) i h (in_cpus M t i a.present)) e a.is_in) (ap not l)

  abbrev idle_test : ℕ → Bool
  idle_test x = any (λ (j : ℕ). on M j && eqb (idle M j) x) (c M)

  pub computed_in_charge : every (λ (i : ℕ). imp (on M i && is_runnable (q M (sched M i)).status) (idle_test (sched M i) || (q M (sched M i)).is_active)) (c M) ≡ true → InChargeActive M
  computed_in_charge h x i a r o =
      subst (λ y. is_runnable (context M y).status ≡ true → NotIdle M y → Active M y) a.named
      (λ r' o'. go o' (or_either (idle_test (sched M i)) _ (imp_use (on M i && is_runnable (q M (sched M i)).status) _ (every_at _ (c M) i h (in_cpus M t i a.present)) (and_true (on M i) _ a.present r')))) r o
    where
      go : NotIdle M (sched M i) → (idle_test (sched M i) ≡ true) ⊎ ((q M (sched M i)).is_active ≡ true) → Active M (sched M i)
      go o (inl z) =
          let (j, b) = any_find (λ (j : ℕ). on M j && eqb (idle M j) (sched M i)) (c M) z in
          let (d, g) = and_both (on M j) (eqb (idle M j) (sched M i)) b in absurd (o j (record { present = d; named = eqb-true _ _ g }))
      go o (inr z) = z

  pub computed_idle : every (λ (i : ℕ). imp (on M i) (not (q M (idle M i)).is_active)) (c M) ≡ true → IdleNotActive M
  computed_idle h x i a =
      subst (λ y. (context M y).is_active ≡ false) a.named (not_is_true _ (imp_use (on M i) _ (every_at _ (c M) i h (in_cpus M t i a.present)) a.present))

  -- one that is active is live and queued, or in charge and not runnable, or in charge and not idle
  pub computed_nobody : every (λ (x : ℕ). imp (q M x).is_active ((not (q M x).gone && queued_test M x) || any (λ (i : ℕ). on M i && eqb (sched M i) x && (not (is_runnable (q M x).status) || every (λ (j : ℕ). imp (on M j) (not (eqb (idle M j) x))) (c M))) (c M))) (n M) ≡ true → NobodyElse M
  computed_nobody h x r a = go (or_either (not (q M x).gone && queued_test M x) _ (imp_use (q M x).is_active _ (every_at _ (n M) x h r) a))
    where
      charged : (i : ℕ) → InCharge M x i → (not (is_runnable (q M x).status) ≡ true) ⊎ (every (λ (j : ℕ). imp (on M j) (not (eqb (idle M j) x))) (c M) ≡ true) → MayBeActive M x
      charged i d (inl z) = stopped i d (not_is_true _ z)
      charged i d (inr z) =
          by_test (is_runnable (q M x).status) (λ u. runs i d u (λ j e. no_eq _ _ (imp_use (on M j) _ (every_at _ (c M) j z (in_cpus M t j e.present)) e.present) e.named)) (λ u. stopped i d u)

      go : ((not (q M x).gone && queued_test M x) ≡ true) ⊎ (any (λ (i : ℕ). on M i && eqb (sched M i) x && (not (is_runnable (q M x).status) || every (λ (j : ℕ). imp (on M j) (not (eqb (idle M j) x))) (c M))) (c M) ≡ true) → MayBeActive M x
      go (inl z) = let (l, w) = and_both (not (q M x).gone) (queued_test M x) z in let (e, i, b, y) = found x w in queued e i b y (not_is_true _ l)
      go (inr z) =
          let (i, b) = any_find (λ (i : ℕ). on M i && eqb (sched M i) x && (not (is_runnable (q M x).status) || every (λ (j : ℕ). imp (on M j) (not (eqb (idle M j) x))) (c M))) (c M) z in
          let (d, f, g) = three (on M i) (eqb (sched M i) x) (not (is_runnable (q M x).status) || every (λ (j : ℕ). imp (on M j) (not (eqb (idle M j) x))) (c M)) b in
          charged i (record { present = d; named = eqb-true _ _ f }) (or_either (not (is_runnable (q M x).status)) _ g)

  pub computed_agree : every (λ (i : ℕ). imp (on M i) (eqb (p M i).block.total_weight (total_weight_of M i))) (c M) ≡ true → Agree M
  computed_agree h i a = eqb-true _ _ (imp_use (on M i) _ (every_at _ (c M) i h (in_cpus M t i a)) a)

  -- no other CPU has an entry
  pub computed_own : (k time : ℕ) → every (λ (i : ℕ). eqb i k || is_empty (p M i).queue) (c M) ≡ true → ServesOwn k time M
  computed_own k time h x s e i a o = absurd (go (or_either (eqb i k) (is_empty (p M i).queue) (every_at _ (c M) i h (in_cpus M t i a.present))))
    where
      go : (eqb i k ≡ true) ⊎ (is_empty (p M i).queue ≡ true) → ⊥
      go (inl z) = o (eqb-true i k z)
      go (inr z) = none (p M i).queue z a.is_in
        where
          none : (l : List Entry) → is_empty l ≡ true → In e l → ⊥
          none [] z g = g
          none (y ∷ ys) z g = never {b = false} z refl
