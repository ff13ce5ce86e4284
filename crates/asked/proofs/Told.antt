-- The five numbers of a reply, from what the code read; and two of them compared. Assumes nothing.
use mathlib.Core.Path.{◌≡◌, refl, sym}
use mathlib.Core.Bool.{true, false}
use Prim.Native.Nat.{ℕ, ◌+◌}
use native.Mathlib.Omega.{arith}
use mathlib.Core.List.{List}
use lib.Dec.{eqb}
use lib.ListN.{get_or}
use borrow.Author.Tests.{eq-eqb, ne_eqb, eqb-true, eqb-false}
use Rattle.columns.proofs.Tests.{by_test, and_both}
use Rattle.machine.specs.Encode.{cpu_place}
use Rattle.answer.specs.declared.Answer.{Answer}
use Rattle.context_ops.specs.Reply.{Reply, reply}
use Rattle.asked.specs.declared.Asked.{Asked}
use Rattle.asked.specs.OfReply.{asked, refused, accepted, asked_of, same, commit_refusal}

-- the block's place is p, as the code has it
pub accepted_at : (n cpu result p : ℕ) (m : List ℕ) → p ≡ cpu_place n cpu → asked 0 result (get_or m (p + 2) 0) (get_or m (p + 1) 0) (get_or m (p + 19) 0) ≡ accepted n cpu result m
accepted_at n cpu result p m h = rw h refl

pub told_refused : (a : Answer) {r : Asked} (n cpu : ℕ) (m : List ℕ) → (a.refusal ≡ 0 → ⊥) → r ≡ refused a.refusal → r ≡ asked_of n cpu (reply a m)
unfolding asked_of
told_refused a n cpu m f h = rw (ne_eqb a.refusal 0 f) h

-- k: the CPU's number, as the code has it
pub told_accepted : (a : Answer) {r : Asked} (n cpu k : ℕ) (m : List ℕ) → a.refusal ≡ 0 → k ≡ cpu → r ≡ accepted n k a.result m → r ≡ asked_of n cpu (reply a m)
unfolding asked_of
told_accepted a n cpu k m z e h = rw (z, ← e) h

-- the first of the five numbers is the refusal
pub told_refusal : (n cpu : ℕ) (y : Reply) → (asked_of n cpu y).refusal ≡ y.answer.refusal
unfolding asked_of
told_refusal n cpu y =
    by_test (eqb y.answer.refusal 0) (λ b. rw b (sym (eqb-true y.answer.refusal 0 b))) (λ b. rw b)

-- two replies, number by number
module _ (a b : Asked) where
  pub same_is : same a b ≡ true → a ≡ b
  unfolding same
  same_is e =
      let p = and_both (eqb a.refusal b.refusal) _ e
      in let q = and_both (eqb a.result b.result) _ p.1
      in let s = and_both (eqb a.in_charge b.in_charge) _ q.1
      in let t = and_both (eqb a.current b.current) (eqb a.v b.v) s.1
      in let r = eqb-true a.refusal b.refusal p.0
      in let u = eqb-true a.result b.result q.0
      in let w = eqb-true a.in_charge b.in_charge s.0
      in let x = eqb-true a.current b.current t.0
      in let y = eqb-true a.v b.v t.1
      in λ i. record { refusal = r i; result = u i; in_charge = w i; current = x i; v = y i }

pub same_self : (a : Asked) → same a a ≡ true
unfolding same
same_self a =
    rw (eq-eqb a.refusal a.refusal refl, eq-eqb a.result a.result refl, eq-eqb a.in_charge a.in_charge refl, eq-eqb a.current a.current refl, eq-eqb a.v a.v refl)

-- now: what the switch gives
module _ (given now : Asked) where
  pub own_refusal : (now.refusal ≡ 0 → ⊥) → now.refusal ≡ commit_refusal given now
  unfolding commit_refusal
  own_refusal n = rw (ne_eqb now.refusal 0 n)

  pub none_same : now.refusal ≡ 0 → same given now ≡ true → 0 ≡ commit_refusal given now
  unfolding commit_refusal
  none_same z e = rw (eq-eqb now.refusal 0 z, e)

  pub last_differs : now.refusal ≡ 0 → same given now ≡ false → 13 ≡ commit_refusal given now
  unfolding commit_refusal
  last_differs z e = rw (eq-eqb now.refusal 0 z, e)

  -- what no refusal says
  pub none_says : commit_refusal given now ≡ 0 → (now.refusal ≡ 0) × (given ≡ now)
  unfolding commit_refusal
  none_says e =
      by_test (eqb now.refusal 0)
      (λ b. let z = eqb-true now.refusal 0 b
      in by_test (same given now) (λ s. (z, same_is given now s)) (λ s. let w : ◌≡◌ {A = ℕ} 13 0 = rw (b, s) at e in absurd (omega arith)))
      (λ b. absurd (eqb-false now.refusal 0 b (rw b at e)))
