-- An entry in a queue, and its place: where keys rise each entry stands at one place.
use mathlib.Core.Path.{◌≡◌, refl, subst, sym, ap, ◌∙◌}
use mathlib.Core.Bool.{true}
use mathlib.Core.List.{List, [], ◌∷◌}
use mathlib.Core.Logic.{inl, inr}
use Prim.Native.Nat.{ℕ, zero, suc}
use Rattle.entries.specs.declared.Entry.{Entry}
use Rattle.entries.specs.Order.{entry_before}
use Rattle.machine.specs.Machine.{Machine, cpu_at}
use Rattle.model.specs.Tidy.{At, Queued, QueuedAt, Tidy}
use Rattle.model.proofs.Lists.{In, all_at}
use Rattle.model.proofs.Sorted.{Sorted}
use Rattle.model.proofs.Queues.{not_before_itself}

pub at_in : (e : Entry) (q : List Entry) (p : ℕ) → At e q p → In e q
at_in e [] p a = absurd a
at_in e (f ∷ q) zero a = inl a
at_in e (f ∷ q) (suc p) a = inr (at_in e q p a)

pub in_at : (e : Entry) (q : List Entry) → In e q → (p : ℕ) × At e q p
in_at e [] i = absurd i
in_at e (f ∷ q) (inl m) = (zero, m)
in_at e (f ∷ q) (inr i) = let (p, a) = in_at e q i in (suc p, a)

-- one place has one entry
at_same : (d e : Entry) (q : List Entry) (p : ℕ) → At d q p → At e q p → d ≡ e
at_same d e [] p a b = absurd a
at_same d e (f ∷ q) zero a b = a ∙ sym b
at_same d e (f ∷ q) (suc p) a b = at_same d e q p a b

above_itself : (e f : Entry) (q : List Entry) → Sorted entry_before (f ∷ q) → e ≡ f → In e q → ⊥
above_itself e f q s m i = not_before_itself e (subst (λ d. entry_before d e ≡ true) (sym m) (all_at (λ d. entry_before f d ≡ true) q s.0 e i))

-- one entry has one place where keys rise
same_place : (e : Entry) (q : List Entry) → Sorted entry_before q → (p r : ℕ) → At e q p → At e q r → p ≡ r
same_place e [] s p r a b = absurd a
same_place e (f ∷ q) s zero zero a b = refl
same_place e (f ∷ q) s zero (suc r) a b = absurd (above_itself e f q s a (at_in e q r b))
same_place e (f ∷ q) s (suc p) zero a b = absurd (above_itself e f q s b (at_in e q p a))
same_place e (f ∷ q) s (suc p) (suc r) a b = ap suc (same_place e q s.1 p r a b)

module _ (M : Machine) where
  pub queued_at : (e : Entry) (i : ℕ) → Queued M e i → (p : ℕ) × QueuedAt M e i p
  queued_at e i h = let (p, a) = in_at e (cpu_at M i).queue h.is_in in (p, record { present = h.present; stands = a })

  pub at_queued : (e : Entry) (i p : ℕ) → QueuedAt M e i p → Queued M e i
  at_queued e i p h = record { present = h.present; is_in = at_in e (cpu_at M i).queue p h.stands }

  -- a context has one entry by value
  abbrev pub OneEntry : Type 0
  OneEntry = (e f : Entry) (i j : ℕ) → Queued M e i → Queued M f j → e.context_ref ≡ f.context_ref → (e ≡ f) × (i ≡ j)

  -- by place, hence by value
  pub one_value : Tidy M → OneEntry
  one_value t e f i j h g m =
      let (p, a) = queued_at e i h in
      let (q, b) = queued_at f j g in
      let (x, y) = t.one_entry e f i j p q a b m in
      (at_same e f (cpu_at M j).queue q (subst (λ r. At e (cpu_at M j).queue r) y (subst (λ l. At e (cpu_at M l).queue p) x a.stands)) b.stands, x)

  -- by value, and by place where keys rise
  pub one_place : ((i : ℕ) → Sorted entry_before (cpu_at M i).queue) → OneEntry → (e f : Entry) (i j p q : ℕ) → QueuedAt M e i p → QueuedAt M f j q
      → e.context_ref ≡ f.context_ref → (i ≡ j) × (p ≡ q)
  one_place s one e f i j p q a b m =
      let (x, y) = one e f i j (at_queued e i p a) (at_queued f j q b) m in
      (y, same_place f (cpu_at M j).queue (s j) p q (subst (λ d. At d (cpu_at M j).queue p) x (subst (λ l. At e (cpu_at M l).queue p) y a.stands)) b.stands)
