-- A refused set has the least number that any of the single calls meets, and keeps every word. Assumes nothing.
use Rattle.std.specs.Prelude.{None, Option, Some, Err, Ok, Result}
use mathlib.Core.Path.{◌≡◌, refl, sym, ap, ◌∙◌}
use mathlib.Core.List.{List, [], ◌∷◌}
use mathlib.Core.Logic.{◌⊎◌, inl, inr}
use Prim.Native.Nat.{ℕ, ◌<◌, ◌≤◌}
use native.Mathlib.Omega.{arith}
use lib.Dec.{ltb, eqb}
use borrow.Author.Tests.{eqb-true, eqb-false, ltb-true, ltb-false}
use Rattle.columns.specs.Common.{fold, In}
use Rattle.cpu_set.specs.Members.{members}
use Rattle.machine.specs.Machine.{Machine}
use Rattle.machine.specs.Encode.{decode}
use Rattle.machine.specs.LookUp.{get_percpu_block}
use Rattle.model.proofs.Cases.{pick}
use Rattle.answer.specs.declared.Answer.{Answer}
use Rattle.context_ops.specs.Reply.{Reply, replied}
use Rattle.group_ops.specs.Group.{first_check, names_refusal, unblock_each, group_on, unblock_group}
use Rattle.calls.specs.Call.{check, checked_by, unblock_group_call}
use Rattle.ronthuyal.specs.Singles.{singles, image_after, zero_answer, joined_answer, joined, Met, Least}
use Rattle.ronthuyal.proofs.Grouped.{group_is_singles}
use Rattle.numbers.specs.Limits.{max_word}

-- z is of x and y the one that is checked first
data First (x y z : ℕ) : Type 0 where
  one : z ≡ x → (y ≡ 0) ⊎ (x ≤ y) → (x ≡ 0 → y ≡ 0) → First x y z
  other : z ≡ y → (x ≡ 0) ⊎ (y ≤ x) → (y ≡ 0 → x ≡ 0) → First x y z

first : (x y : ℕ) → First x y (first_check x y)
unfolding first_check
first x y =
    pick (First x y) (eqb x 0) (λ t. other refl (inl (eqb-true x 0 t)) (λ e. eqb-true x 0 t))
    (λ s. pick (First x y) (eqb y 0) (λ t. one refl (inl (eqb-true y 0 t)) (λ e. eqb-true y 0 t))
    (λ t. pick (First x y) (ltb x y) (λ l. let h = ltb-true x y l in one refl (inr (omega arith)) (λ e. absurd (eqb-false x 0 s e)))
    (λ l. other refl (inr (ltb-false x y l)) (λ e. absurd (eqb-false y 0 t e)))))

-- of a list that begins with a and b, from a list that begins with their joined answer
module _ (r : ℕ) (a b j : Answer) (l : List Answer) (o : Least r (j ∷ l)) where
  at_most : (x y : ℕ) → (x ≡ 0) ⊎ (y ≤ x) → (y ≡ 0 → x ≡ 0) → (y ≡ 0) ⊎ (r ≤ y) → (x ≡ 0) ⊎ (r ≤ x)
  at_most x y (inl e) f h = inl e
  at_most x y (inr e) f (inl z) = inl (f z)
  at_most x y (inr e) f (inr z) = inr (omega arith)

  met_by : (c : Answer) → j.refusal ≡ c.refusal → In c (a ∷ (b ∷ l)) → Met r (j ∷ l) → Met r (a ∷ (b ∷ l))
  met_by c e i p = go p.of_them
    where
      go : In p.answer (j ∷ l) → Met r (a ∷ (b ∷ l))
      go (inl q) = record { answer = c; of_them = i; is = sym e ∙ ap (λ (d : Answer). d.refusal) (sym q) ∙ p.is }
      go (inr q) = record { answer = p.answer; of_them = inr (inr q); is = p.is }

  split : First a.refusal b.refusal j.refusal → Least r (a ∷ (b ∷ l))
  split (one e h f) =
      record {
        least = (rw e at o.least.0, (at_most b.refusal a.refusal h f (rw e at o.least.0), o.least.1));
        met = λ n. met_by a e (inl refl) (o.met n);
        none = λ z. let y = sym e ∙ (o.none z).0 in (y, (f y, (o.none z).1));
      }
  split (other e h f) =
      record {
        least = (at_most a.refusal b.refusal h f (rw e at o.least.0), (rw e at o.least.0, o.least.1));
        met = λ n. met_by b e (inr (inl refl)) (o.met n);
        none = λ z. let y = sym e ∙ (o.none z).0 in (f y, (y, (o.none z).1));
      }

least_from : (l : List Answer) (a : Answer) → Least (fold joined_answer a l).refusal (a ∷ l)
unfolding joined_answer
least_from [] a = record { least = (inr (omega arith), tt); met = λ n. record { answer = a; of_them = inl refl; is = refl }; none = λ z. (z, tt) }
least_from (b ∷ l) a = split _ a b (joined_answer a b) l (least_from l (joined_answer a b)) (first a.refusal b.refusal)

least_of : (l : List Answer) → Least (fold joined_answer zero_answer l).refusal l
least_of l =
    let o = least_from l zero_answer in
    record { least = o.least.1; met = λ n. not_zero n (o.met n); none = λ z. (o.none z).1 }
  where
    not_zero : ((fold joined_answer zero_answer l).refusal ≡ 0 → ⊥) → Met (fold joined_answer zero_answer l).refusal (zero_answer ∷ l) → Met (fold joined_answer zero_answer l).refusal l
    not_zero n p = go p.of_them
      where
        go : In p.answer (zero_answer ∷ l) → Met (fold joined_answer zero_answer l).refusal l
        go (inl q) = absurd (n (sym p.is ∙ ap (λ (d : Answer). d.refusal) q))
        go (inr q) = record { answer = p.answer; of_them = q; is = p.is }

joined_refusal : (m : List ℕ) (l : List Answer) (m' : List ℕ) → (joined m l m').answer.refusal ≡ (fold joined_answer zero_answer l).refusal
unfolding joined
joined_refusal m l m' =
    let a = fold joined_answer zero_answer l in
    pick (λ (u : Reply). u.answer.refusal ≡ a.refusal) (eqb a.refusal 0) (λ t. refl) (λ t. refl)

pub group_least : (m : List ℕ) (cpu time mask : ℕ) → 0 < mask → mask ≤ max_word
    → Least (unblock_group_call m cpu time mask).answer.refusal (singles m cpu time (members mask))
group_least m cpu time mask p h =
    let l = singles m cpu time (members mask) in
    let e : (unblock_group_call m cpu time mask).answer.refusal ≡ (fold joined_answer zero_answer l).refusal
    = ap (λ (u : Reply). u.answer.refusal) (group_is_singles m cpu time mask p h) ∙ joined_refusal m l (image_after m cpu time (members mask)) in
    rw e (least_of l)

-- every word of m, if the call is refused
abbrev Kept : List ℕ → Reply → Type 0
Kept m u = (u.answer.refusal ≡ 0 → ⊥) → u.image ≡ m

module _ (m : List ℕ) (cpu time mask : ℕ) where
  kept_on : (M : Machine) (l : Option ℕ) → Kept m (group_on m M cpu (members mask) l)
  unfolding group_on replied
  kept_on M None = λ n. refl
  kept_on M (Some k) =
      pick (Kept m) (eqb (names_refusal M cpu (members mask)) 0)
      (λ t. pick (Kept m) (unblock_each k (members mask) M).no_room (λ s n. refl) (λ s n. absurd (n refl))) (λ t n. refl)

  kept_checked : (w : Result (ℕ × ℕ) ℕ) → Kept m (checked_by m (λ (M : Machine). unblock_group m M cpu mask) w)
  unfolding checked_by unblock_group
  kept_checked (Err r) = λ n. refl
  kept_checked (Ok (c, k)) = kept_on (decode m) (get_percpu_block (decode m) cpu)

  pub refused_group : ((unblock_group_call m cpu time mask).answer.refusal ≡ 0 → ⊥) → (unblock_group_call m cpu time mask).image ≡ m
  refused_group = kept_checked (check m time)
