-- The queues of all CPUs over the contexts: what every stage keeps, and how it is kept.
use Rattle.std.specs.Prelude.{if◌then◌else◌}
use mathlib.Core.Path.{◌≡◌, refl, sym, ap, ◌∙◌}
use mathlib.Core.Bool.{Bool, true, false}
use mathlib.Core.List.{List}
use mathlib.Core.Logic.{inl, inr, ◌≢◌}
use Prim.Native.Nat.{ℕ, ◌<◌}
use lib.Dec.{ltb, eqb}
use lib.ListN.{length, set, length-set}
use lib.Seq.{get_or-set_other, get_or-set_same, set_out}
use borrow.Author.Tests.{eqb-true, eqb-false, eq-eqb, ne_eqb, ltb-true, ltb-false}
use Rattle.context.specs.declared.Context.{Context}
use Rattle.entries.specs.declared.Key.{Key}
use Rattle.entries.specs.declared.Entry.{Entry}
use Rattle.entries.specs.Order.{before, entry_before}
use Rattle.machine.specs.Machine.{context_at, no_context}
pub use Rattle.model.specs.Tidy.{Agrees}
use Rattle.model.proofs.Cases.{by_test, never}
use Rattle.model.proofs.Lists.{In}
use Rattle.model.proofs.Sorted.{Sorted, Apart}
use Rattle.entries.proofs.Ordered.{entries_ordered, same_key}

-- a view: what an entry has to agree with
pub record Run : Type 0 where
  pub has_key : Bool
  pub key_vd : ℕ
  pub key_rem_slice : ℕ
  pub debug_id : ℕ
  pub vd : ℕ
  pub rem_slice : ℕ
  pub vtime : ℕ

abbrev pub run : Context → Run
run c =
    record {
      has_key = c.has_queue_key;
      key_vd = c.queue_key_vd;
      key_rem_slice = c.queue_key_rem_slice;
      debug_id = c.debug_id;
      vd = c.vd;
      rem_slice = c.rem_slice;
      vtime = c.vtime;
    }

-- a view: what no stage changes before the slice changes hands
pub record Fixed : Type 0 where
  pub gone : Bool
  pub debug_id : ℕ
  pub currently_scheduled : Bool
  pub userspace : Bool
  pub prio : ℕ
  pub lock : ℕ

abbrev pub fixed : Context → Fixed
fixed c =
    record {
      gone = c.gone;
      debug_id = c.debug_id;
      currently_scheduled = c.currently_scheduled;
      userspace = c.userspace;
      prio = c.prio;
      lock = c.lock;
    }

-- a view of every context, where one record is changed without touching the view
pub set_view : {B : Type 0} (f : Context → B) (cs : List Context) (x : ℕ) (c : Context) → f c ≡ f (context_at cs x) → (y : ℕ)
    → f (context_at (set cs x c) y) ≡ f (context_at cs y)
set_view f cs x c e y =
    by_test (eqb y x)
    (λ t. let p : y ≡ x = eqb-true y x t in
    by_test (ltb x (length cs)) (λ r. rw (p, get_or-set_same cs x c no_context (ltb-true x (length cs) r)) e)
    (λ r. rw (set_out cs x c (ltb-false x (length cs) r))))
    (λ t. let n : y ≢ x = eqb-false y x t in rw (get_or-set_other cs x y c no_context n))

-- a fact of a context after a change of x: of the new record at x, of the old one elsewhere
pub at_set : (P : Context → Type 0) (cs : List Context) (x : ℕ) (c : Context) (y : ℕ) → x < length cs → (y ≡ x → P c) → (y ≢ x → P (context_at cs y))
    → P (context_at (set cs x c) y)
at_set P cs x c y r f g =
    by_test (eqb y x)
    (λ t. let e = eqb-true y x t in rw (e, get_or-set_same cs x c no_context r) (f e))
    (λ t. let n : y ≢ x = eqb-false y x t in rw (get_or-set_other cs x y c no_context n) (g n))

-- the queues with q on CPU k
abbrev pub on : ℕ → List Entry → (ℕ → List Entry) → ℕ → List Entry
on k q R i = if eqb i k then q else R i

-- x has an entry; x has none
abbrev pub Has : ℕ → (ℕ → List Entry) → Type 0
Has x Q = (e : Entry) × (i : ℕ) × In e (Q i) × (e.context_ref ≡ x)

abbrev pub Without : ℕ → (ℕ → List Entry) → Type 0
Without x Q = (e : Entry) (i : ℕ) → In e (Q i) → e.context_ref ≢ x

-- a fact of the entries on k, and of those elsewhere
pub on_cases : (P : ℕ → List Entry → Type 0) (k : ℕ) (q : List Entry) (R : ℕ → List Entry) (i : ℕ) → (i ≡ k → P i q) → (i ≢ k → P i (R i)) → P i (on k q R i)
on_cases P k q R i f g = by_test (eqb i k) (λ t. rw t (f (eqb-true i k t))) (λ t. rw t (g (eqb-false i k t)))

pub on_here : (k : ℕ) (q : List Entry) (R : ℕ → List Entry) → on k q R k ≡ q
on_here k q R = rw (eq-eqb k k refl)

pub on_there : (k : ℕ) (q : List Entry) (R : ℕ → List Entry) (i : ℕ) → i ≢ k → on k q R i ≡ R i
on_there k q R i n = rw (ne_eqb i k n)

pub apart_by_id : (a b : Entry) → a.key.ctxt_id ≢ b.key.ctxt_id → Apart entry_before a b
apart_by_id a b n =
    by_test (before a.key b.key) (λ t. inl t)
    (λ t. by_test (before b.key a.key) (λ u. inr u) (λ u. absurd (n (ap (λ (k : Key). k.ctxt_id) (same_key a.key b.key t u)))))

pub not_before_itself : (e : Entry) → entry_before e e ≡ true → ⊥
not_before_itself e h = never h (entries_ordered.asym e e h)

-- contexts of different numbers have different ids
abbrev pub IdsDiffer : List Context → Type 0
IdsDiffer cs = (x y : ℕ) → x < length cs → y < length cs → (context_at cs x).debug_id ≡ (context_at cs y).debug_id → x ≡ y

-- F: those that may be queued; cs₀: the contexts before the call
pub record Inv (F : ℕ → Type 0) (cs₀ cs : List Context) (Q : ℕ → List Entry) : Type 0 where
  pub count : length cs ≡ length cs₀
  pub same : (x : ℕ) → fixed (context_at cs x) ≡ fixed (context_at cs₀ x)
  pub ids : IdsDiffer cs
  pub sorted : (i : ℕ) → Sorted entry_before (Q i)
  pub range : (e : Entry) (i : ℕ) → In e (Q i) → e.context_ref < length cs
  pub id : (e : Entry) (i : ℕ) → In e (Q i) → (context_at cs e.context_ref).debug_id ≡ e.key.ctxt_id
  pub one : (e f : Entry) (i j : ℕ) → In e (Q i) → In f (Q j) → e.context_ref ≡ f.context_ref → (e ≡ f) × (i ≡ j)
  pub agrees : (e : Entry) (i : ℕ) → In e (Q i) → (context_at cs e.context_ref).gone ≡ false → Agrees (context_at cs e.context_ref) e
  pub keyed_queued : (x : ℕ) → x < length cs → (context_at cs x).gone ≡ false → (context_at cs x).has_queue_key ≡ true → Without x Q → ⊥
  pub free : (e : Entry) (i : ℕ) → In e (Q i) → F e.context_ref

pub agrees_run : (a b : Context) (e : Entry) → run b ≡ run a → Agrees a e → Agrees b e
agrees_run a b e s g =
    record {
      has_key = ap (λ (r : Run). r.has_key) s ∙ g.has_key;
      key_vd = ap (λ (r : Run). r.key_vd) s ∙ g.key_vd;
      key_rem_slice = ap (λ (r : Run). r.key_rem_slice) s ∙ g.key_rem_slice;
      key_id = ap (λ (r : Run). r.debug_id) s ∙ g.key_id;
      vd = ap (λ (r : Run). r.vd) s ∙ g.vd;
      rem_slice = ap (λ (r : Run). r.rem_slice) s ∙ g.rem_slice;
      vtime = ap (λ (r : Run). r.vtime) s ∙ g.vtime;
    }

pub gone_of : {a b : Fixed} → a ≡ b → a.gone ≡ b.gone
gone_of e = ap (λ (f : Fixed). f.gone) e

pub id_of : {a b : Fixed} → a ≡ b → a.debug_id ≡ b.debug_id
id_of e = ap (λ (f : Fixed). f.debug_id) e

module _ (F : ℕ → Type 0) (cs₀ : List Context) where
  -- another account of the same queues
  pub inv_ext : (cs : List Context) (Q P : ℕ → List Entry) → ((i : ℕ) → P i ≡ Q i) → Inv F cs₀ cs Q → Inv F cs₀ cs P
  inv_ext cs Q P p n =
      record {
        count = n.count;
        same = n.same;
        ids = n.ids;
        sorted = λ i. rw (p i) (n.sorted i);
        range = λ e i h. n.range e i (rw (p i) at h);
        id = λ e i h. n.id e i (rw (p i) at h);
        one = λ e f i j h g m. n.one e f i j (rw (p i) at h) (rw (p j) at g) m;
        agrees = λ e i h. n.agrees e i (rw (p i) at h);
        keyed_queued = λ x r l h w. n.keyed_queued x r l h (λ e i g. w e i (rw (p i) g));
        free = λ e i h. n.free e i (rw (p i) at h);
      }

  -- what may be queued, as far as something is
  pub inv_free : (G : ℕ → Type 0) (cs : List Context) (Q : ℕ → List Entry) → ((e : Entry) (i : ℕ) → In e (Q i) → G e.context_ref) → Inv F cs₀ cs Q → Inv G cs₀ cs Q
  inv_free G cs Q g n =
      record {
        count = n.count;
        same = n.same;
        ids = n.ids;
        sorted = n.sorted;
        range = n.range;
        id = n.id;
        one = n.one;
        agrees = n.agrees;
        keyed_queued = n.keyed_queued;
        free = g;
      }

  -- every record changed, but for the two views
  pub inv_views : (cs ds : List Context) (Q : ℕ → List Entry) → length ds ≡ length cs → ((x : ℕ) → run (context_at ds x) ≡ run (context_at cs x))
      → ((x : ℕ) → fixed (context_at ds x) ≡ fixed (context_at cs x)) → Inv F cs₀ cs Q → Inv F cs₀ ds Q
  inv_views cs ds Q l r f n =
      record {
        count = l ∙ n.count;
        same = λ x. f x ∙ n.same x;
        ids = λ x y a b m. n.ids x y (rw l at a) (rw l at b) (sym (id_of (f x)) ∙ m ∙ id_of (f y));
        sorted = n.sorted;
        range = λ e i h. rw l (n.range e i h);
        id = λ e i h. id_of (f e.context_ref) ∙ n.id e i h;
        one = n.one;
        agrees = λ e i h g. agrees_run _ _ e (r e.context_ref) (n.agrees e i h (sym (gone_of (f e.context_ref)) ∙ g));
        keyed_queued = λ x a g h w. n.keyed_queued x (rw l at a) (sym (gone_of (f x)) ∙ g) (sym (ap (λ (s : Run). s.has_key) (r x)) ∙ h) w;
        free = n.free;
      }

  pub inv_same : (cs : List Context) (Q : ℕ → List Entry) (x : ℕ) (c : Context) → run c ≡ run (context_at cs x) → fixed c ≡ fixed (context_at cs x) → Inv F cs₀ cs Q
      → Inv F cs₀ (set cs x c) Q
  inv_same cs Q x c r f n = inv_views cs (set cs x c) Q (length-set cs x c) (set_view run cs x c r) (set_view fixed cs x c f) n
