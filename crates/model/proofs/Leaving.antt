-- An entry leaves the queue of one CPU, seen beside the queue of another.
use mathlib.Core.Path.{◌≡◌, refl, sym, ap, ◌∙◌}
use mathlib.Core.Bool.{false}
use mathlib.Core.List.{List}
use mathlib.Core.Logic.{◌≢◌}
use Prim.Native.Nat.{ℕ, ◌<◌}
use lib.Dec.{eqb}
use lib.ListN.{length, set, length-set}
use lib.Seq.{get_or-set_same}
use borrow.Author.Tests.{eqb-true, eq-eqb, ne_eqb}
use Rattle.context.specs.declared.Context.{Context}
use Rattle.entries.specs.declared.Entry.{Entry}
use Rattle.entries.specs.Queue.{queue_remove}
use Rattle.machine.specs.Machine.{context_at, no_context}
use Rattle.model.proofs.Cases.{by_test}
use Rattle.model.proofs.Lists.{In}
use Rattle.model.proofs.Queues.{Inv, inv_ext, fixed, on, Has, Without}
use Rattle.model.proofs.Moves.{inv_take, now_out, was_in, still_in}

-- two CPUs' queues in either order
pub on_swap : (k t : ℕ) (q v : List Entry) (R : ℕ → List Entry) → t ≢ k → (i : ℕ) → on k q (on t v R) i ≡ on t v (on k q R) i
on_swap k t q v R n i =
    by_test (eqb i k)
    (λ a. rw (a, ne_eqb i t (λ z. n (sym z ∙ eqb-true i k a))))
    (λ a. by_test (eqb i t) (λ b. rw (a, b)) (λ b. rw (a, b)))

module _ (F : ℕ → Type 0) (cs₀ cs : List Context) (k t : ℕ) (other : t ≢ k) (q v : List Entry) (R : ℕ → List Entry) where
  -- what is left when e is out of CPU t's queue, and its record is c
  pub record Left (e : Entry) (c : Context) : Type 0 where
    pub inv : Inv F cs₀ (set cs e.context_ref c) (on k q (on t (queue_remove e.key v) R))
    pub out : Without e.context_ref (on k q (on t (queue_remove e.key v) R))
    pub range : e.context_ref < length (set cs e.context_ref c)
    pub is_c : context_at (set cs e.context_ref c) e.context_ref ≡ c
    pub was_in : In e (on k q (on t v R) t)
    pub subset : (d : Entry) (i : ℕ) → In d (on k q (on t (queue_remove e.key v) R) i) → In d (on k q (on t v R) i)
    pub has : (y : ℕ) → y ≢ e.context_ref → Has y (on k q (on t v R)) → Has y (on k q (on t (queue_remove e.key v) R))
    pub still : (d : Entry) → In d v → d.context_ref ≢ e.context_ref → In d (queue_remove e.key v)

  pub leaves : (e : Entry) (c : Context) → Inv F cs₀ cs (on k q (on t v R)) → In e v → fixed c ≡ fixed (context_at cs e.context_ref) → c.has_queue_key ≡ false
      → Left e c
  leaves e c n i f g =
      record {
        inv = inv_ext F cs₀ ds _ _ back (inv_take F cs₀ cs t v (on k q R) swapped e.context_ref e.key r own only c f (λ z. g));
        out = λ d j m. now_out F cs₀ cs t v (on k q R) swapped e.context_ref e.key r own only d j (rw (back j) at m);
        range = rw (length-set cs e.context_ref c) r;
        is_c = get_or-set_same cs e.context_ref c no_context r;
        was_in = rw (on_swap k t q v R other t) e_in;
        subset = λ d j m.
            rw (on_swap k t q v R other j) (was_in F cs₀ cs t v (on k q R) swapped e.context_ref e.key r own only d j (rw (back j) at m));
        has = λ y z (d, j, m, p). (
          d,
          j,
          rw (back j)
              (still_in F cs₀ cs t v (on k q R) swapped e.context_ref e.key r own only d j (rw (on_swap k t q v R other j) at m) (λ w. z (sym p ∙ w))),
          p,
        );
        still = λ d j m.
            rw (eq-eqb t t refl) at
            (still_in F cs₀ cs t v (on k q R) swapped e.context_ref e.key r own only d t (rw (eq-eqb t t refl) j) m);
      }
    where
      ds : List Context
      ds = set cs e.context_ref c

      swapped : Inv F cs₀ cs (on t v (on k q R))
      swapped = inv_ext F cs₀ cs (on k q (on t v R)) _ (λ j. sym (on_swap k t q v R other j)) n

      e_in : In e (on t v (on k q R) t)
      e_in = rw (eq-eqb t t refl) i

      r : e.context_ref < length cs
      r = swapped.range e t e_in

      own : e.key.ctxt_id ≡ (context_at cs e.context_ref).debug_id
      own = sym (swapped.id e t e_in)

      only : (d : Entry) (j : ℕ) → In d (on t v (on k q R) j) → d.context_ref ≡ e.context_ref → (d.key ≡ e.key) × (j ≡ t)
      only d j m z = let (p, w) = swapped.one d e j t m e_in z in (ap (λ (b : Entry). b.key) p, w)

      back : (j : ℕ) → on k q (on t (queue_remove e.key v) R) j ≡ on t (queue_remove e.key v) (on k q R) j
      back j = on_swap k t q (queue_remove e.key v) R other j
