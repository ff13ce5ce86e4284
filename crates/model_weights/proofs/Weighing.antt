-- Who is active and what entries weigh: what every stage keeps, and how one change keeps it.
use mathlib.Core.Path.{◌≡◌, subst, sym, ap, ◌∙◌}
use mathlib.Core.Bool.{true, false}
use mathlib.Core.List.{List}
use mathlib.Core.Logic.{◌⊎◌, inl, inr, ◌≢◌}
use Prim.Native.Nat.{ℕ, ◌<◌}
use lib.Dec.{eqb}
use lib.ListN.{length, set}
use borrow.Author.Tests.{eqb-true, eqb-false}
use Rattle.context.specs.declared.Context.{Context}
use Rattle.weights.specs.Weights.{weight}
use Rattle.entries.specs.declared.Entry.{Entry}
use Rattle.machine.specs.Machine.{context_at}
use Rattle.model.proofs.Cases.{by_test}
use Rattle.model.proofs.Lists.{In}
use Rattle.model.proofs.Queues.{Fixed, at_set, Has}

pub prio_of : {a b : Fixed} → a ≡ b → a.prio ≡ b.prio
prio_of e = ap (λ (f : Fixed). f.prio) e

-- cs₀: the contexts before the call
module _ (cs₀ : List Context) where
  abbrev pub Alive : ℕ → Type 0
  Alive x = (context_at cs₀ x).gone ≡ false

  abbrev pub own_weight : ℕ → ℕ
  own_weight x = weight (context_at cs₀ x).prio

  -- K: those whose mark stays as it was; H: those who may be active without an entry
  pub record Weights (K H : ℕ → Type 0) (cs : List Context) (Q : ℕ → List Entry) : Type 0 where
    pub weighs : (e : Entry) (i : ℕ) → In e (Q i) → Alive e.context_ref → e.weight ≡ own_weight e.context_ref
    pub active : (e : Entry) (i : ℕ) → In e (Q i) → Alive e.context_ref → (context_at cs e.context_ref).is_active ≡ true
    pub only : (x : ℕ) → x < length cs₀ → (context_at cs x).is_active ≡ true → (Alive x × Has x Q) ⊎ H x
    pub still : (x : ℕ) → K x → (context_at cs x).is_active ≡ (context_at cs₀ x).is_active

  -- the record of x becomes c, and no entry of another context comes or goes
  pub record Change (K H H' : ℕ → Type 0) (cs : List Context) (Q Q' : ℕ → List Entry) (x : ℕ) (c : Context) : Type 0 where
    pub range : x < length cs
    pub came : (d : Entry) (i : ℕ) → In d (Q' i) → d.context_ref ≢ x → In d (Q i)
    pub stays : (y : ℕ) → y ≢ x → Has y Q → Has y Q'
    pub its_entry : (d : Entry) (i : ℕ) → In d (Q' i) → d.context_ref ≡ x → Alive x → (d.weight ≡ own_weight x) × (c.is_active ≡ true)
    pub may : c.is_active ≡ true → (Alive x × Has x Q') ⊎ H' x
    pub held : (y : ℕ) → y ≢ x → H y → H' y
    pub kept : K x → c.is_active ≡ (context_at cs₀ x).is_active

  pub change : (K H H' : ℕ → Type 0) (cs : List Context) (Q Q' : ℕ → List Entry) (x : ℕ) (c : Context) → Change K H H' cs Q Q' x c → Weights K H cs Q
      → Weights K H' (set cs x c) Q'
  change K H H' cs Q Q' x c g n =
      record {
        weighs = λ d i h l.
            by_test (eqb d.context_ref x)
            (λ t. let z : d.context_ref ≡ x = eqb-true _ x t in (g.its_entry d i h z (subst Alive z l)).0 ∙ ap own_weight (sym z))
            (λ t. n.weighs d i (g.came d i h (eqb-false _ x t)) l);
        active = λ d i h l.
            at_set (λ (b : Context). b.is_active ≡ true) cs x c d.context_ref g.range (λ z. (g.its_entry d i h z (subst Alive z l)).1)
            (λ m. n.active d i (g.came d i h m) l);
        only = λ y r.
            at_set (λ (b : Context). b.is_active ≡ true → (Alive y × Has y Q') ⊎ H' y) cs x c y g.range
            (λ z a. subst (λ v. (Alive v × Has v Q') ⊎ H' v) (sym z) (g.may a)) (λ m a. go y m (n.only y r a));
        still = λ y w.
            at_set (λ (b : Context). b.is_active ≡ (context_at cs₀ y).is_active) cs x c y g.range
            (λ z. g.kept (subst K z w) ∙ ap (λ v. (context_at cs₀ v).is_active) (sym z)) (λ m. n.still y w);
      }
    where
      go : (y : ℕ) → y ≢ x → (Alive y × Has y Q) ⊎ H y → (Alive y × Has y Q') ⊎ H' y
      go y m (inl (l, h)) = inl (l, g.stays y m h)
      go y m (inr h) = inr (g.held y m h)

  -- other records with the same marks
  pub same_marks : (K H : ℕ → Type 0) (cs ds : List Context) (Q : ℕ → List Entry) → ((y : ℕ) → (context_at ds y).is_active ≡ (context_at cs y).is_active)
      → Weights K H cs Q → Weights K H ds Q
  same_marks K H cs ds Q e n =
      record {
        weighs = n.weighs;
        active = λ d i h l. e d.context_ref ∙ n.active d i h l;
        only = λ y r a. n.only y r (sym (e y) ∙ a);
        still = λ y w. e y ∙ n.still y w;
      }

  -- another account of the same queues
  pub same_queues : (K H : ℕ → Type 0) (cs : List Context) (Q P : ℕ → List Entry) → ((i : ℕ) → P i ≡ Q i) → Weights K H cs Q → Weights K H cs P
  same_queues K H cs Q P p n =
      record {
        weighs = λ d i h l. n.weighs d i (rw (p i) at h) l;
        active = λ d i h l. n.active d i (rw (p i) at h) l;
        only = λ y r a. go y (n.only y r a);
        still = n.still;
      }
    where
      go : (y : ℕ) → (Alive y × Has y Q) ⊎ H y → (Alive y × Has y P) ⊎ H y
      go y (inl (l, (d, i, h, z))) = inl (l, (d, i, rw (p i) h, z))
      go y (inr h) = inr h

  -- other names for who is kept and who is held
  pub same_names : (K K' H H' : ℕ → Type 0) (cs : List Context) (Q : ℕ → List Entry) → ((y : ℕ) → K' y → K y)
      → ((y : ℕ) → y < length cs₀ → (context_at cs y).is_active ≡ true → H y → H' y) → Weights K H cs Q → Weights K' H' cs Q
  same_names K K' H H' cs Q f g n =
      record {
        weighs = n.weighs;
        active = n.active;
        only = λ y r a. go y (g y r a) (n.only y r a);
        still = λ y w. n.still y (f y w);
      }
    where
      go : (y : ℕ) → (H y → H' y) → (Alive y × Has y Q) ⊎ H y → (Alive y × Has y Q) ⊎ H' y
      go y m (inl a) = inl a
      go y m (inr h) = inr (m h)
