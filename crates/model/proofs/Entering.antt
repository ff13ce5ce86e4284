-- A context's old key leaves, and it enters the queue anew.
use mathlib.Core.Path.{◌≡◌, refl, subst, sym, ap, ◌∙◌}
use mathlib.Core.Bool.{true, false}
use mathlib.Core.List.{List}
use mathlib.Core.Logic.{◌≢◌}
use Prim.Native.Nat.{ℕ, ◌<◌}
use lib.Dec.{eqb}
use lib.ListN.{length, set, length-set}
use lib.Seq.{set-set, get_or-set_same}
use borrow.Author.Tests.{eqb-true, eqb-false}
use Rattle.context.specs.declared.Context.{Context}
use Rattle.entries.specs.declared.Entry.{Entry}
use Rattle.entries.specs.Queue.{queue_insert}
use Rattle.machine.specs.Machine.{context_at, no_context}
use Rattle.model.specs.Wakeup.{without_old_key}
use Rattle.model.proofs.Cases.{by_test, never, pick}
use Rattle.model.proofs.Lists.{In}
use Rattle.model.proofs.Queues.{Run, run, fixed, on, Has, Without, Inv, Agrees, id_of}
use Rattle.model.proofs.Moves.{inv_out, inv_take, now_out, has_take, inv_put, has_put, has_new}
use Rattle.context.specs.Key.{queue_key, without_key}

module _ (F : ℕ → Type 0) (cs₀ cs : List Context) (k : ℕ) (q : List Entry) (R : ℕ → List Entry) where
  -- what is left when x's old key is out of the queue of CPU k
  pub record Unkeyed (x : ℕ) (c : Context) (p : List Entry) : Type 0 where
    pub inv : Inv F cs₀ (set cs x (without_key c)) (on k p R)
    pub out : Without x (on k p R)
    pub has : (y : ℕ) → y ≢ x → Has y (on k q R) → Has y (on k p R)

  -- c: x's record, but for what no entry agrees with
  module _ (x : ℕ) (c : Context) (n : Inv F cs₀ cs (on k q R)) (l : (context_at cs x).gone ≡ false) (s : run c ≡ run (context_at cs x)) (f : fixed c ≡ fixed (context_at cs x)) where
    -- it has the key of x's entry
    pub old_key : (e : Entry) (i : ℕ) → In e (on k q R i) → e.context_ref ≡ x → (c.has_queue_key ≡ true) × (e.key ≡ queue_key c)
    old_key e i h m =
        let a : Agrees (context_at cs x) e = subst (λ y. (context_at cs y).gone ≡ false → Agrees (context_at cs y) e) m (n.agrees e i h) l in
        let v : e.key.vd ≡ c.queue_key_vd = sym a.key_vd ∙ sym (ap (λ (z : Run). z.key_vd) s) in
        let w : e.key.rem_slice ≡ c.queue_key_rem_slice = sym a.key_rem_slice ∙ sym (ap (λ (z : Run). z.key_rem_slice) s) in
        let i' : e.key.ctxt_id ≡ c.debug_id = sym (n.id e i h) ∙ ap (λ y. (context_at cs y).debug_id) m ∙ sym (id_of f) in
        (ap (λ (z : Run). z.has_key) s ∙ a.has_key, λ j. record { vd = v j; rem_slice = w j; ctxt_id = i' j })

    pub unkeyed : x < length cs → ((e : Entry) (i : ℕ) → In e (on k q R i) → e.context_ref ≡ x → i ≡ k) → Unkeyed x c (without_old_key c q)
    unkeyed r here =
        pick (Unkeyed x c) c.has_queue_key
        (λ t. record {
          inv = inv_take F cs₀ cs k q R n x (queue_key c) r (id_of f) only (without_key c) f (λ g. refl);
          out = now_out F cs₀ cs k q R n x (queue_key c) r (id_of f) only;
          has = has_take F cs₀ cs k q R n x (queue_key c) r (id_of f) only;
        })
        (λ t. let w = none_left t in record { inv = inv_out F cs₀ cs (on k q R) x (without_key c) n r f (λ g. refl) w; out = w; has = λ y m h. h })
      where
        only : (e : Entry) (i : ℕ) → In e (on k q R i) → e.context_ref ≡ x → (e.key ≡ queue_key c) × (i ≡ k)
        only e i h m = ((old_key e i h m).1, here e i h m)

        none_left : c.has_queue_key ≡ false → Without x (on k q R)
        none_left t e i h m = never (old_key e i h m).0 t

  -- what is left when x then has entry e
  pub record Entered (x : ℕ) (c : Context) (p : List Entry) : Type 0 where
    pub inv : Inv F cs₀ (set cs x c) (on k p R)
    pub has : (y : ℕ) → Has y (on k q R) → Has y (on k p R)
    pub new : Has x (on k p R)

  -- d: the record without a key, c: with the key of e
  pub re_entered : (x : ℕ) (d c : Context) (p : List Entry) (e : Entry) → Unkeyed x d p → x < length cs → fixed c ≡ fixed d → e.key.ctxt_id ≡ d.debug_id
      → e.context_ref ≡ x → Agrees c e → F x → Entered x c (queue_insert e p)
  re_entered x d c p e u r f own of a fx =
      record {
        inv = subst (λ l. Inv F cs₀ l (on k (queue_insert e p) R)) (set-set cs x (without_key d) c)
            (inv_put F cs₀ cs₁ k p R u.inv x e r₁ own₁ of u.out c (subst (λ b. fixed c ≡ fixed b) (sym is_d) f) a fx);
        has = λ y h.
            by_test (eqb y x) (λ t. subst (λ z. Has z (on k (queue_insert e p) R)) (sym (eqb-true y x t)) new₁)
            (λ t. has_put F cs₀ cs₁ k p R u.inv x e r₁ own₁ of u.out y (u.has y (eqb-false y x t) h));
        new = new₁;
      }
    where
      cs₁ : List Context
      cs₁ = set cs x (without_key d)

      is_d : context_at (set cs x (without_key d)) x ≡ without_key d
      is_d = get_or-set_same cs x (without_key d) no_context r

      r₁ : x < length (set cs x (without_key d))
      r₁ = rw (length-set cs x (without_key d)) r

      own₁ : e.key.ctxt_id ≡ (context_at (set cs x (without_key d)) x).debug_id
      own₁ = own ∙ sym (ap (λ (b : Context). b.debug_id) is_d)

      new₁ : Has x (on k (queue_insert e p) R)
      new₁ = has_new F cs₀ (set cs x (without_key d)) k p R u.inv x e r₁ own₁ of u.out
