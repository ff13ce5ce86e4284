-- What the answer promises, of any words, CPU, time and context. Assumes nothing.
use Rattle.std.specs.Prelude.{Err, Ok, Result}
use mathlib.Core.Path.{◌≡◌, refl, sym, ap, ◌∙◌, subst}
use mathlib.Core.Bool.{Bool, true, false}
use mathlib.Core.List.{List}
use Prim.Native.Nat.{ℕ, zero, suc, ◌<◌, ◌≤◌}
use native.Mathlib.Omega.{arith}
use lib.Dec.{ltb}
use borrow.Author.Tests.{ltb-true, ltb-false}
use Rattle.columns.proofs.Tests.{by_test, clash}
use Rattle.machine.specs.Encode.{decode}
use Rattle.image.specs.Refusal.{image_refusal}
use Rattle.calls.specs.Call.{check}
use Rattle.calls.proofs.Called.{is_refused, is_passed}
use Rattle.candidate.specs.Candidate.{candidate}
use Rattle.candidate.proofs.Apart.{IsCandidate, is_candidate, refused_five}
use Rattle.priority_trial.specs.Works.{works}
use Rattle.humblest.specs.declared.Humblest.{Humblest}
use Rattle.humblest.specs.Humblest.{refused, found, none, priorities, greatest, humblest_of, humblest_by, humblest}

-- g says of the numbers below b which is the greatest that works, if one does
pub data Says (f : ℕ → Bool) (b : ℕ) (g : Humblest) : Type 0 where
  nobody : g ≡ none → ((p : ℕ) → p < b → f p ≡ false) → Says f b g
  this : (p : ℕ) → g ≡ found p → p < b → f p ≡ true → ((q : ℕ) → p < q → q < b → f q ≡ false) → Says f b g

-- one number more, which fails
more : (f : ℕ → Bool) (b : ℕ) (g : Humblest) → f b ≡ false → Says f b g → Says f (suc b) g
more f b g e (nobody z h) =
    nobody z (λ p l. by_test (ltb p b) (λ t. h p (ltb-true p b t)) (λ t. let s : b ≡ p = omega (arith, ltb-false p b t) in subst (λ (y : ℕ). f y ≡ false) s e))
more f b g e (this p z l w h) =
    this p z (omega arith) w
    (λ q i j. by_test (ltb q b) (λ t. h q i (ltb-true q b t)) (λ t. let s : b ≡ q = omega (arith, ltb-false q b t) in subst (λ (y : ℕ). f y ≡ false) s e))

pub greatest_says : (f : ℕ → Bool) (b : ℕ) → Says f b (greatest f b)
unfolding greatest
greatest_says f zero = nobody refl (λ p l. absurd (omega arith))
greatest_says f (suc b) =
    by_test (f b) (λ t. rw t (this b refl (omega arith) t (λ q i j. absurd (omega arith)))) (λ t. rw t (more f b (greatest f b) t (greatest_says f b)))

-- which answer a call gets: the check's refusal; 5; or, of a CPU that is present and a context that is on no CPU, which numbers work
pub data Ways (m : List ℕ) (cpu time context : ℕ) (a : Humblest) : Type 0 where
  unchecked : (r : ℕ) → Err r ≡ check m time → a ≡ refused r → Ways m cpu time context a
  no_candidate : image_refusal time m ≡ 0 → a ≡ refused 5 → Ways m cpu time context a
  tried : (k x : ℕ) → image_refusal time m ≡ 0 → IsCandidate (decode m) cpu context k x → Says (works m cpu time context) priorities a → Ways m cpu time context a

module _ (m : List ℕ) (cpu time context : ℕ) where
  of_named : (w : Result (ℕ × ℕ) ℕ) → w ≡ candidate (decode m) cpu context → image_refusal time m ≡ 0 → Ways m cpu time context (humblest_of m time w)
  unfolding humblest_of
  of_named (Err r) e z = no_candidate z (ap refused (refused_five (decode m) cpu context r e))
  of_named (Ok (k, x)) e z =
      let o = is_candidate (decode m) cpu context k x e in
      let s : Says (works m k time x) priorities (greatest (works m k time x) priorities) = greatest_says (works m k time x) priorities in
      let t : Says (works m cpu time x) priorities (greatest (works m k time x) priorities)
      = subst (λ (j : ℕ). Says (works m j time x) priorities (greatest (works m k time x) priorities)) o.cpu_is.is s in
      tried k x z o (subst (λ (y : ℕ). Says (works m cpu time y) priorities (greatest (works m k time x) priorities)) o.context_is.is t)

  of_checked : (w : Result (ℕ × ℕ) ℕ) → w ≡ check m time → Ways m cpu time context (humblest_by m cpu time context w)
  unfolding humblest_by
  of_checked (Err r) e = unchecked r e refl
  of_checked (Ok (c, n)) e = of_named (candidate (decode m) cpu context) refl (is_passed m time c n e).none

  pub ways : Ways m cpu time context (humblest m cpu time context)
  ways = of_checked (check m time) refl

  -- the answer works, and no larger number does
  pub record Right (a : Humblest) : Type 0 where
    pub below : a.priority < priorities
    pub works_with : works m cpu time context a.priority ≡ true
    pub larger_fail : (p : ℕ) → a.priority < p → p < priorities → works m cpu time context p ≡ false

  abbrev Promised : Humblest → Type 0
  Promised a =
      (a.found ≡ 1 → Right a)
      × ((a.refusal ≡ 0) → (p : ℕ) → p < priorities → works m cpu time context p ≡ true → a.found ≡ 1)
      × ((a.refusal ≡ 0 → ⊥) → a ≡ refused a.refusal)

  result_refused : (r : ℕ) → (r ≡ 0 → ⊥) → (a : Humblest) → a ≡ refused r → Promised a
  result_refused r n a e =
      subst Promised (sym e) (λ z. absurd (omega arith), λ z. absurd (n z), λ z. refl)

  result_says : (a : Humblest) → Says (works m cpu time context) priorities a → Promised a
  result_says a (nobody e h) = subst Promised (sym e) (λ z. absurd (omega arith), λ z p l w. clash w (h p l), λ z. refl)
  result_says a (this p e l w h) =
      subst Promised (sym e) (λ z. record { below = l; works_with = w; larger_fail = h }, λ z q i v. refl, λ z. absurd (z refl))

  result : (a : Humblest) → Ways m cpu time context a → Promised a
  result a (unchecked r e g) = result_refused r (is_refused m time r e) a g
  result a (no_candidate z g) = result_refused 5 (λ y. omega arith) a g
  result a (tried k x z o s) = result_says a s

  -- where one is found it works, and no larger number does
  pub found_right : (humblest m cpu time context).found ≡ 1 → Right (humblest m cpu time context)
  found_right = (result (humblest m cpu time context) ways).0

  -- of an accepted call: one is found if any number works, so none is told exactly if none does
  pub some_found : (humblest m cpu time context).refusal ≡ 0 → (p : ℕ) → p < priorities → works m cpu time context p ≡ true → (humblest m cpu time context).found ≡ 1
  some_found = (result (humblest m cpu time context) ways).1

  pub none_works : (humblest m cpu time context).refusal ≡ 0 → (humblest m cpu time context).found ≡ 0 → (p : ℕ) → p < priorities → works m cpu time context p ≡ false
  none_works z f p l =
      by_test (works m cpu time context p)
      (λ t. let e : (humblest m cpu time context).found ≡ 1 = some_found z p l t in absurd (omega (arith, e, f))) (λ t. t)

  -- of a refused one both other words are 0
  pub refused_none : ((humblest m cpu time context).refusal ≡ 0 → ⊥) → humblest m cpu time context ≡ refused (humblest m cpu time context).refusal
  refused_none = (result (humblest m cpu time context) ways).2
