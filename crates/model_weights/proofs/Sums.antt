-- The weights of a queue, as an entry enters or leaves it. Assumes nothing.
use Rattle.std.specs.Prelude.{if◌then◌else◌}
use mathlib.Core.Path.{◌≡◌, refl, ap, sym, ◌∙◌}
use mathlib.Core.Bool.{true, false}
use mathlib.Core.List.{List, [], ◌∷◌}
use mathlib.Core.Logic.{◌⊎◌, inl, inr, ◌≢◌}
use Prim.Native.Nat.{ℕ, ◌+◌, ◌<◌}
use native.Mathlib.Omega.{arith}
use lib.Dec.{eqb}
use lib.ListN.{length}
use borrow.Author.Tests.{eqb-true, eqb-false}
use Rattle.context.specs.declared.Context.{Context}
use Rattle.weights.specs.Weights.{weight}
use Rattle.entries.specs.declared.Key.{Key}
use Rattle.entries.specs.declared.Entry.{Entry}
use Rattle.entries.specs.Order.{entry_before}
use Rattle.entries.specs.Queue.{insert, remove, queue_insert, queue_remove, keyed}
use Rattle.entries.proofs.Ordered.{entries_ordered}
use Rattle.machine.specs.Machine.{Machine, context_at, cpu_at}
use Rattle.model.proofs.Cases.{by_test, never}
use Rattle.model.proofs.Lists.{In, all_at}
use Rattle.model.proofs.Sorted.{Sorted, Apart, in_insert, in_remove}
use Rattle.model.proofs.Queues.{Inv, on, on_here, Without, apart_by_id, not_before_itself}
use Rattle.total_weight.specs.TotalWeight.{sum, queue_weights, items_of, total_weight_of}

-- the weights of a queue added up
abbrev pub added : List Entry → ℕ
added q = sum (queue_weights q)

-- no entry of e's key is in the queue
pub added_insert : (e : Entry) (q : List Entry) → ((d : Entry) → In d q → Apart entry_before e d) → added (queue_insert e q) ≡ e.weight + added q
unfolding insert
added_insert e [] h = refl
added_insert e (x ∷ xs) h =
    by_test (entry_before e x) (λ t. rw t)
    (λ t. rw t (by_test (entry_before x e)
    (λ u. rw u (let r : added (insert entry_before e xs) ≡ e.weight + added xs = added_insert e xs (λ d i. h d (inr i)) in omega arith))
    (λ u. absurd (same t u (h x (inl refl))))))
  where
    same : entry_before e x ≡ false → entry_before x e ≡ false → Apart entry_before e x → ⊥
    same t u (inl m) = never m t
    same t u (inr m) = never m u

-- the entry of the key is e
pub added_remove : (e : Entry) (q : List Entry) → Sorted entry_before q → In e q → added q ≡ e.weight + added (queue_remove e.key q)
unfolding remove
added_remove e [] s i = absurd i
added_remove e (x ∷ xs) s (inl p) =
    by_test (entry_before e x) (λ t. absurd (not_before_itself e (rw (← p) at t)))
    (λ t. by_test (entry_before x e) (λ u. absurd (not_before_itself e (rw (← p) at u)))
    (λ u. rw (t, u) (ap (λ (d : Entry). d.weight + added xs) (sym p))))
added_remove e (x ∷ xs) s (inr i) =
    let b : entry_before x e ≡ true = all_at _ xs s.0 e i in
    by_test (entry_before e x) (λ t. never t (entries_ordered.asym x e b))
    (λ t. rw (t, b) (let r : added xs ≡ e.weight + added (remove entry_before (keyed e.key) xs) = added_remove e xs s.1 i in omega arith))

-- a context's entry in a queue, if it has one
pub entry_in : (x : ℕ) (q : List Entry) → ((e : Entry) × In e q × (e.context_ref ≡ x)) ⊎ ((e : Entry) → In e q → e.context_ref ≢ x)
entry_in x [] = inr (λ e i. absurd i)
entry_in x (d ∷ q) =
    by_test (eqb d.context_ref x) (λ t. inl (d, inl refl, eqb-true _ _ t)) (λ t. go (eqb-false _ _ t) (entry_in x q))
  where
    go : d.context_ref ≢ x → ((e : Entry) × In e q × (e.context_ref ≡ x)) ⊎ ((e : Entry) → In e q → e.context_ref ≢ x)
        → ((e : Entry) × In e (d ∷ q) × (e.context_ref ≡ x)) ⊎ ((e : Entry) → In e (d ∷ q) → e.context_ref ≢ x)
    go n (inl (e, i, z)) = inl (e, inr i, z)
    go n (inr h) = inr (λ e i. other e i)
      where
        other : (e : Entry) → In e (d ∷ q) → e.context_ref ≢ x
        other e (inl p) m = n (ap (λ (y : Entry). y.context_ref) (sym p) ∙ m)
        other e (inr i) m = h e i m

-- a context that has no entry gets e in the queue of CPU k
pub added_put : (F : ℕ → Type 0) (cs₀ cs : List Context) (k : ℕ) (q : List Entry) (R : ℕ → List Entry) → Inv F cs₀ cs (on k q R)
    → (x : ℕ) (e : Entry) → x < length cs → e.key.ctxt_id ≡ (context_at cs x).debug_id → Without x (on k q R)
    → added (queue_insert e q) ≡ e.weight + added q
added_put F cs₀ cs k q R n x e r own w =
    added_insert e q (λ d i.
    let j : In d (on k q R k) = rw (on_here k q R) i in
    apart_by_id e d (λ z. w d k j (n.ids d.context_ref x (n.range d k j) r (n.id d k j ∙ sym z ∙ own))))

-- an entry after an insertion on CPU k, and after a removal
pub insert_cases : (k : ℕ) (q : List Entry) (R : ℕ → List Entry) (e d : Entry) (i : ℕ) → In d (on k (queue_insert e q) R i) → (d ≡ e) ⊎ In d (on k q R i)
insert_cases k q R e d i h = by_test (eqb i k) (λ t. go t (in_insert entry_before e d q (rw t at h))) (λ t. inr (rw t (rw t at h)))
  where
    go : eqb i k ≡ true → (d ≡ e) ⊎ In d q → (d ≡ e) ⊎ In d (on k q R i)
    go t (inl p) = inl p
    go t (inr j) = inr (rw t j)

pub remove_in : (k : ℕ) (q : List Entry) (R : ℕ → List Entry) (K : Key) (d : Entry) (i : ℕ) → In d (on k (queue_remove K q) R i) → In d (on k q R i)
remove_in k q R K d i h = by_test (eqb i k) (λ t. rw t (in_remove entry_before (keyed K) d q (rw t at h))) (λ t. rw t (rw t at h))

-- what the context in charge adds
abbrev pub held_weight : Context → ℕ
held_weight c = if c.is_active then weight c.prio else 0

pub total_is : (M : Machine) (i : ℕ) → total_weight_of M i ≡ held_weight (context_at M.contexts (cpu_at M i).block.sched_ctxt) + added (cpu_at M i).queue
unfolding total_weight_of items_of
total_is M i =
    let c : Context = context_at M.contexts (cpu_at M i).block.sched_ctxt in
    by_test c.is_active (λ t. rw t) (λ t. rw t (omega arith))
