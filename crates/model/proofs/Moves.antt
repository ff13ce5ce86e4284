-- An entry leaves a queue, or enters one, with the change of its context.
use mathlib.Core.Path.{◌≡◌, refl, subst, sym, ap, ◌∙◌}
use mathlib.Core.Bool.{true, false}
use mathlib.Core.List.{List}
use mathlib.Core.Logic.{◌⊎◌, inl, inr, ◌≢◌}
use Prim.Native.Nat.{ℕ, ◌<◌}
use lib.Dec.{eqb}
use lib.ListN.{length, set, length-set}
use lib.Seq.{get_or-set_other}
use borrow.Author.Tests.{eqb-true, eqb-false, eq-eqb}
use Rattle.context.specs.declared.Context.{Context}
use Rattle.entries.specs.declared.Key.{Key}
use Rattle.entries.specs.declared.Entry.{Entry}
use Rattle.entries.specs.Order.{entry_before}
use Rattle.entries.specs.Queue.{queue_insert, queue_remove, keyed}
use Rattle.machine.specs.Machine.{context_at, no_context}
use Rattle.model.proofs.Cases.{by_test, never}
use Rattle.model.proofs.Lists.{In}
use Rattle.model.proofs.Sorted.{Sorted, insert_sorted, remove_sorted, in_insert, in_inserted, in_remove, removed_at, still_in_insert, still_in_remove, Apart}
use Rattle.entries.proofs.Ordered.{entries_ordered}
use Rattle.model.proofs.Queues.{fixed, set_view, at_set, on, Has, Without, apart_by_id, not_before_itself, IdsDiffer, Inv, Agrees, id_of}

module _ (F : ℕ → Type 0) (cs₀ cs : List Context) where
  -- a live context without an entry has no key
  pub no_key : (Q : ℕ → List Entry) (x : ℕ) → Inv F cs₀ cs Q → x < length cs → (context_at cs x).gone ≡ false → Without x Q
      → (context_at cs x).has_queue_key ≡ false
  no_key Q x n r l w = by_test (context_at cs x).has_queue_key (λ t. absurd (n.keyed_queued x r l t w)) (λ t. t)

  -- ids stay apart
  ids_set : (x : ℕ) (c : Context) → fixed c ≡ fixed (context_at cs x) → IdsDiffer cs → IdsDiffer (set cs x c)
  ids_set x c f d y z a b m =
      let s = set_view fixed cs x c f in
      d y z (rw (length-set cs x c) at a) (rw (length-set cs x c) at b) (sym (id_of (s y)) ∙ m ∙ id_of (s z))

  -- a context without an entry changes
  pub inv_out : (Q : ℕ → List Entry) (x : ℕ) (c : Context) → Inv F cs₀ cs Q → x < length cs → fixed c ≡ fixed (context_at cs x)
      → (c.gone ≡ false → c.has_queue_key ≡ false) → Without x Q → Inv F cs₀ (set cs x c) Q
  inv_out Q x c n r f k w =
      record {
        count = length-set cs x c ∙ n.count;
        same = λ y. set_view fixed cs x c f y ∙ n.same y;
        ids = ids_set x c f n.ids;
        sorted = n.sorted;
        range = λ e i h. rw (length-set cs x c) (n.range e i h);
        id = λ e i h. id_of (set_view fixed cs x c f e.context_ref) ∙ n.id e i h;
        one = n.one;
        agrees = λ e i h. rw (get_or-set_other cs x e.context_ref c no_context (w e i h)) (n.agrees e i h);
        keyed_queued = λ y a.
            at_set (λ b. b.gone ≡ false → b.has_queue_key ≡ true → Without y Q → ⊥) cs x c y r (λ p l h v. never h (k l))
            (λ p l h v. n.keyed_queued y (rw (length-set cs x c) at a) l h v);
        free = n.free;
      }

module _ (F : ℕ → Type 0) (cs₀ cs : List Context) (k : ℕ) (q : List Entry) (R : ℕ → List Entry) (n : Inv F cs₀ cs (on k q R)) where
  here_sorted : Sorted entry_before q
  here_sorted = rw (eq-eqb k k refl) at (n.sorted k)

  -- x's entry leaves the queue of CPU k by its key K
  module _ (x : ℕ) (K : Key) (r : x < length cs) (own : K.ctxt_id ≡ (context_at cs x).debug_id)
      (only : (e : Entry) (i : ℕ) → In e (on k q R i) → e.context_ref ≡ x → (e.key ≡ K) × (i ≡ k)) where
    pub was_in : (e : Entry) (i : ℕ) → In e (on k (queue_remove K q) R i) → In e (on k q R i)
    was_in e i h = by_test (eqb i k) (λ t. rw t (in_remove entry_before (keyed K) e q (rw t at h))) (λ t. rw t (rw t at h))

    pub now_out : Without x (on k (queue_remove K q) R)
    now_out e i h m =
        let (p, z) = only e i (was_in e i h) m in
        by_test (eqb i k) (λ t. go p (removed_at entries_ordered (keyed K) q here_sorted e (rw t at h))) (λ t. eqb-false i k t z)
      where
        go : e.key ≡ K → Apart entry_before (keyed K) e → ⊥
        go p (inl h) = not_before_itself e (rw (← p) at h)
        go p (inr h) = not_before_itself e (rw (← p) at h)

    pub still_in : (e : Entry) (i : ℕ) → In e (on k q R i) → e.context_ref ≢ x → In e (on k (queue_remove K q) R i)
    still_in e i h m =
        by_test (eqb i k)
        (λ t. rw t (still_in_remove entry_before (keyed K) e q
        (apart_by_id (keyed K) e (λ z. m (n.ids e.context_ref x (n.range e i h) r (n.id e i h ∙ sym z ∙ own)))) (rw t at h)))
        (λ t. rw t (rw t at h))

    pub has_take : (y : ℕ) → y ≢ x → Has y (on k q R) → Has y (on k (queue_remove K q) R)
    has_take y m (e, i, h, p) = (e, i, still_in e i h (λ z. m (sym p ∙ z)), p)

    pub inv_take : (c : Context) → fixed c ≡ fixed (context_at cs x) → (c.gone ≡ false → c.has_queue_key ≡ false)
        → Inv F cs₀ (set cs x c) (on k (queue_remove K q) R)
    inv_take c f g =
        record {
          count = length-set cs x c ∙ n.count;
          same = λ y. set_view fixed cs x c f y ∙ n.same y;
          ids = ids_set F cs₀ cs x c f n.ids;
          sorted = λ i. by_test (eqb i k) (λ t. rw t (remove_sorted entries_ordered (keyed K) q here_sorted)) (λ t. rw t (rw t at (n.sorted i)));
          range = λ e i h. rw (length-set cs x c) (n.range e i (was_in e i h));
          id = λ e i h. id_of (set_view fixed cs x c f e.context_ref) ∙ n.id e i (was_in e i h);
          one = λ e d i j h a m. n.one e d i j (was_in e i h) (was_in d j a) m;
          agrees = λ e i h. rw (get_or-set_other cs x e.context_ref c no_context (now_out e i h)) (n.agrees e i (was_in e i h));
          keyed_queued = λ y a.
              at_set (λ b. b.gone ≡ false → b.has_queue_key ≡ true → Without y (on k (queue_remove K q) R) → ⊥) cs x c y r (λ p l h v. never h (g l))
              (λ p l h v. n.keyed_queued y (rw (length-set cs x c) at a) l h (λ e i u m. v e i (still_in e i u (λ z. p (sym m ∙ z))) m));
          free = λ e i h. n.free e i (was_in e i h);
        }

  -- x, which has no entry, gets e in the queue of CPU k
  module _ (x : ℕ) (e : Entry) (r : x < length cs) (own : e.key.ctxt_id ≡ (context_at cs x).debug_id) (of : e.context_ref ≡ x)
      (w : Without x (on k q R)) where
    pub put_cases : (f : Entry) (i : ℕ) → In f (on k (queue_insert e q) R i) → ((f ≡ e) × (i ≡ k)) ⊎ In f (on k q R i)
    put_cases f i h = by_test (eqb i k) (λ t. go t (in_insert entry_before e f q (rw t at h))) (λ t. inr (rw t (rw t at h)))
      where
        go : eqb i k ≡ true → (f ≡ e) ⊎ In f q → ((f ≡ e) × (i ≡ k)) ⊎ In f (on k q R i)
        go t (inl p) = inl (p, eqb-true i k t)
        go t (inr j) = inr (rw t j)

    pub put_in : In e (on k (queue_insert e q) R k)
    put_in = rw (eq-eqb k k refl) (in_inserted entry_before e q)

    pub put_still_in : (f : Entry) (i : ℕ) → In f (on k q R i) → In f (on k (queue_insert e q) R i)
    put_still_in f i h =
        by_test (eqb i k)
        (λ t. rw t (still_in_insert entry_before e f q
        (apart_by_id e f (λ z. w f i h (n.ids f.context_ref x (n.range f i h) r (n.id f i h ∙ sym z ∙ own)))) (rw t at h)))
        (λ t. rw t (rw t at h))

    pub has_put : (y : ℕ) → Has y (on k q R) → Has y (on k (queue_insert e q) R)
    has_put y (f, i, h, p) = (f, i, put_still_in f i h, p)

    pub has_new : Has x (on k (queue_insert e q) R)
    has_new = (e, k, put_in, of)

    pub inv_put : (c : Context) → fixed c ≡ fixed (context_at cs x) → Agrees c e → F x → Inv F cs₀ (set cs x c) (on k (queue_insert e q) R)
    inv_put c f a fx =
        record {
          count = length-set cs x c ∙ n.count;
          same = λ y. set_view fixed cs x c f y ∙ n.same y;
          ids = ids_set F cs₀ cs x c f n.ids;
          sorted = λ i. by_test (eqb i k) (λ t. rw t (insert_sorted entries_ordered e q here_sorted)) (λ t. rw t (rw t at (n.sorted i)));
          range = λ d i h. rw (length-set cs x c) (ranges d i (put_cases d i h));
          id = λ d i h. id_of (set_view fixed cs x c f d.context_ref) ∙ matches d i (put_cases d i h);
          one = λ d g i j h b m. alone d g i j m (put_cases d i h) (put_cases g j b);
          agrees = λ d i h.
              at_set (λ b. b.gone ≡ false → Agrees b d) cs x c d.context_ref r (λ m l. new d i m (put_cases d i h)) (λ m l. old d i m l (put_cases d i h));
          keyed_queued = λ y b.
              at_set (λ g. g.gone ≡ false → g.has_queue_key ≡ true → Without y (on k (queue_insert e q) R) → ⊥) cs x c y r (λ p l h v. v e k put_in (of ∙ sym p))
              (λ p l h v. n.keyed_queued y (rw (length-set cs x c) at b) l h (λ d i u m. v d i (put_still_in d i u) m));
          free = λ d i h. frees d i (put_cases d i h);
        }
      where
        at_e : (d : Entry) → d ≡ e → d.context_ref ≡ x
        at_e d p = ap (λ (g : Entry). g.context_ref) p ∙ of

        ranges : (d : Entry) (i : ℕ) → ((d ≡ e) × (i ≡ k)) ⊎ In d (on k q R i) → d.context_ref < length cs
        ranges d i (inl (p, z)) = rw (at_e d p) r
        ranges d i (inr h) = n.range d i h

        matches : (d : Entry) (i : ℕ) → ((d ≡ e) × (i ≡ k)) ⊎ In d (on k q R i) → (context_at cs d.context_ref).debug_id ≡ d.key.ctxt_id
        matches d i (inl (p, z)) = ap (λ y. (context_at cs y).debug_id) (at_e d p) ∙ sym own ∙ ap (λ (g : Entry). g.key.ctxt_id) (sym p)
        matches d i (inr h) = n.id d i h

        alone : (d g : Entry) (i j : ℕ) → d.context_ref ≡ g.context_ref → ((d ≡ e) × (i ≡ k)) ⊎ In d (on k q R i) → ((g ≡ e) × (j ≡ k)) ⊎ In g (on k q R j)
            → (d ≡ g) × (i ≡ j)
        alone d g i j m (inl (p, z)) (inl (s, t)) = (p ∙ sym s, z ∙ sym t)
        alone d g i j m (inl (p, z)) (inr h) = absurd (w g j h (sym m ∙ at_e d p))
        alone d g i j m (inr h) (inl (s, t)) = absurd (w d i h (m ∙ at_e g s))
        alone d g i j m (inr h) (inr b) = n.one d g i j h b m

        new : (d : Entry) (i : ℕ) → d.context_ref ≡ x → ((d ≡ e) × (i ≡ k)) ⊎ In d (on k q R i) → Agrees c d
        new d i m (inl (p, z)) = subst (λ g. Agrees c g) (sym p) a
        new d i m (inr h) = absurd (w d i h m)

        old : (d : Entry) (i : ℕ) → d.context_ref ≢ x → (context_at cs d.context_ref).gone ≡ false → ((d ≡ e) × (i ≡ k)) ⊎ In d (on k q R i)
            → Agrees (context_at cs d.context_ref) d
        old d i m l (inl (p, z)) = absurd (m (at_e d p))
        old d i m l (inr h) = n.agrees d i h l

        frees : (d : Entry) (i : ℕ) → ((d ≡ e) × (i ≡ k)) ⊎ In d (on k q R i) → F d.context_ref
        frees d i (inl (p, z)) = subst F (sym (at_e d p)) fx
        frees d i (inr h) = n.free d i h
