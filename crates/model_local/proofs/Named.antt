-- What a CPU names is within the set of what it names. Assumes nothing.
use mathlib.Core.Path.{◌≡◌, refl, subst}
use mathlib.Core.Bool.{Bool, true, false, not, ◌&&◌}
use mathlib.Core.Logic.{inl, inr}
use mathlib.Core.List.{List, [], ◌∷◌, ◌++◌}
use Prim.Native.Nat.{ℕ}
use lib.Dec.{eqb}
use borrow.Author.Tests.{eq-eqb, eqb-true}
use Rattle.columns.specs.Common.{In}
use Rattle.entries.specs.declared.Entry.{Entry}
use Rattle.entries.specs.declared.Timer.{Timer}
use Rattle.model.specs.Steal.{member, contexts_of}
use Rattle.model.proofs.Cases.{by_test, never, and_both, not_is_true}
use Rattle.model.proofs.Lists.{all_in, map_in, in_left, in_right}
use Rattle.model_local.specs.Names.{Names, timed_contexts, named_contexts, is_named}
use Rattle.model_local.specs.Local.{Within}

pub member_in : (x : ℕ) (l : List ℕ) → In x l → member x l ≡ true
member_in x [] i = absurd i
member_in x (y ∷ ys) (inl e) = rw (eq-eqb x y e)
member_in x (y ∷ ys) (inr i) = by_test (eqb x y) (λ t. rw t) (λ t. rw t (member_in x ys i))

-- a test that can be computed: no item of the first list is in the second
abbrev pub none_of : List ℕ → List ℕ → Bool
none_of [] m = true
none_of (y ∷ ys) m = not (member y m) && none_of ys m

pub none_in : (l m : List ℕ) → none_of l m ≡ true → (x : ℕ) → member x l ≡ true → member x m ≡ true → ⊥
none_in [] m t x p q = never {b = false} p refl
none_in (y ∷ ys) m t x p q =
    let (u, v) = and_both (not (member y m)) (none_of ys m) t in
    by_test (eqb x y)
    (λ e. let z : x ≡ y = eqb-true x y e in never (subst (λ (w : ℕ). member w m ≡ true) z q) (not_is_true (member y m) u))
    (λ e. none_in ys m v x (rw e at p) q)

module _ (l : Names) where
  abbrev queued : List ℕ
  queued = contexts_of l.queued

  abbrev timed : List ℕ
  timed = timed_contexts l.timed

  abbrev listed : List ℕ
  listed = l.listed_here ++ l.listed_by_interrupt

  named : (x : ℕ) → In x (named_contexts l) → is_named l x ≡ true
  unfolding is_named
  named x i = member_in x (named_contexts l) i

  past_three : (x : ℕ) → In x (queued ++ (timed ++ listed)) → is_named l x ≡ true
  past_three x i = named x (inr (inr (inr i)))

  pub within_named : Within (is_named l) l
  within_named =
      record {
        current = named l.current (inl refl);
        in_charge = named l.in_charge (inr (inl refl));
        idle = named l.idle (inr (inr (inl refl)));
        queued = all_in _ l.queued (λ (e : Entry) i. past_three e.context_ref (in_left queued (timed ++ listed) _ (map_in (λ (z : Entry). z.context_ref) l.queued e i)));
        timed =
            all_in _ l.timed
            (λ (t : Timer) i. past_three t.context_ref (in_right queued (timed ++ listed) _ (in_left timed listed _ (map_in (λ (z : Timer). z.context_ref) l.timed t i))));
        listed_here =
            all_in _ l.listed_here
            (λ (x : ℕ) i. past_three x (in_right queued (timed ++ listed) x (in_right timed listed x (in_left l.listed_here l.listed_by_interrupt x i))));
      }
