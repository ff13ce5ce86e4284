-- From a call's reply to the rule in its answer. Assumes nothing.
use Rattle.std.specs.Prelude.{None, Option, Some, Err, Ok, Result}
use mathlib.Core.Path.{◌≡◌, refl, ap, ◌∙◌, subst}
use mathlib.Core.List.{List}
use Prim.Native.Nat.{ℕ}
use native.Mathlib.Omega.{arith}
use lib.Dec.{eqb}
use borrow.Author.Tests.{eqb-false}
use Rattle.columns.proofs.Tests.{by_test}
use Rattle.answer.specs.declared.Answer.{Answer}
use Rattle.machine.specs.Machine.{Machine}
use Rattle.machine.specs.Encode.{decode}
use Rattle.machine.specs.LookUp.{look_up, get_percpu_block}
use Rattle.machine.specs.Outcome.{Outcome}
use Rattle.machine.proofs.LookUps.{live, present}
use Rattle.image.proofs.Admitted as admitted
use Rattle.model.specs.Accepted.{Call, by_direct_switch, outcome}
use Rattle.context_ops.specs.Reply.{Reply, reply, refuse, replied, reply_to, reply_on}
use Rattle.switch_ops.specs.Reply.{refusal, decide_on, decide_by, decide, direct_switch_by, direct_switch}
use Rattle.calls.specs.Call.{check, checked_by, checked}
use Rattle.calls.proofs.Accepts.{refused_not}
use Rattle.calls.proofs.Called.{is_refused, call_none}
use Rattle.ronthuyal.proofs.Demanded.{WasAccepted, accepted_by, accepted_to}

-- of an answer whose call's outcome is o
pub record Tells (a : Answer) (o : Outcome) : Type 0 where
  pub refused : (a.refusal ≡ 0 → ⊥) → a.rule ≡ 0
  pub told : a.refusal ≡ 0 → a.rule ≡ o.rule

-- of a call that decides, on the machine of the image m
pub record Knows (m : List ℕ) (cpu time : ℕ) (call : Call) (a : Answer) : Type 0 where
  pub tells : Tells a (outcome call cpu time (decode m))
  pub accepted : a.refusal ≡ 0 → WasAccepted (decode m) cpu time call
  pub passed : a.refusal ≡ 0 → admitted.Passed time m

module _ {a : Answer} {m' : List ℕ} (m : List ℕ) where
  refused_tells : (o : Outcome) (r : ℕ) → (r ≡ 0 → ⊥) → reply a m' ≡ refuse r m → Tells a o
  refused_tells o r n e = record { refused = λ z. ap (λ (y : Reply). y.answer.rule) e; told = λ z. refused_not r m n e z }

  replied_tells : (o : Outcome) → reply a m' ≡ replied m o → Tells a o
  unfolding replied
  replied_tells o e =
      by_test o.no_room (λ t. refused_tells o 9 (λ w. omega arith) (rw t at e))
      (λ t. let f = rw t at e in record { refused = λ z. absurd (z (ap (λ (y : Reply). y.answer.refusal) f)); told = λ z. ap (λ (y : Reply). y.answer.rule) f })

  module _ (M : Machine) (cpu time : ℕ) where
    on : (k : ℕ) (call : Call) → reply a m' ≡ decide_on m M k time call → Tells a (outcome call k time M)
    unfolding decide_on
    on k call e =
        by_test (eqb (refusal call M k time) 0) (λ t. replied_tells (outcome call k time M) (rw t at e))
        (λ t. refused_tells _ (refusal call M k time) (eqb-false (refusal call M k time) 0 t) (rw t at e))

    by : (call : Call) (p : Option ℕ) → p ≡ get_percpu_block M cpu → reply a m' ≡ decide_by m M time call p → Tells a (outcome call cpu time M)
    unfolding decide_by
    by call None h e = refused_tells _ 5 (λ w. omega arith) e
    by call (Some k) h e = subst (λ (j : ℕ). Tells a (outcome call j time M)) (present M cpu k h).is (on k call e)

    to : (context : ℕ) (l : Option ℕ) → l ≡ look_up M context → reply a m' ≡ direct_switch_by m M cpu time l → Tells a (outcome (by_direct_switch context) cpu time M)
    unfolding direct_switch_by
    to context None h e = refused_tells _ 5 (λ w. omega arith) e
    to context (Some x) h e =
        subst (λ (y : ℕ). Tells a (outcome (by_direct_switch y) cpu time M)) (live M context x h).is (by (by_direct_switch x) (get_percpu_block M cpu) refl e)

  -- behind refusals 1 to 4
  past : (cpu time : ℕ) (call : Call) (f : Machine → Reply) → (reply a m' ≡ f (decode m) → Tells a (outcome call cpu time (decode m)))
      → (reply a m' ≡ f (decode m) → a.refusal ≡ 0 → WasAccepted (decode m) cpu time call) → (w : Result (ℕ × ℕ) ℕ) → w ≡ check m time → reply a m' ≡ checked_by m f w → Knows m cpu time call a
  unfolding checked_by
  past cpu time call f g h (Err r) i e =
      let n = is_refused m time r i
      in record { tells = refused_tells _ r n e; accepted = λ z. refused_not r m n e z; passed = λ z. refused_not r m n e z }
  past cpu time call f g h (Ok (c, n)) i e =
      record { tells = g e; accepted = h e; passed = λ z. admitted.passed time m (call_none m time (Ok (c, n)) i c n refl) }

  pub decision_knows : (cpu time : ℕ) (call : Call) → reply a m' ≡ checked m time (λ (M : Machine). decide m M cpu time call) → Knows m cpu time call a
  decision_knows cpu time call e =
      past cpu time call (λ (M : Machine). decide m M cpu time call) (by (decode m) cpu time call (get_percpu_block (decode m) cpu) refl)
      (λ f z. accepted_by m (decode m) cpu time z call f) (check m time) refl e

  pub direct_knows : (cpu time context : ℕ) → reply a m' ≡ checked m time (λ (M : Machine). direct_switch m M cpu time context) → Knows m cpu time (by_direct_switch context) a
  direct_knows cpu time context e =
      past cpu time (by_direct_switch context) (λ (M : Machine). direct_switch m M cpu time context) (to (decode m) cpu time context (look_up (decode m) context) refl)
      (λ f z. accepted_to m (decode m) cpu time z context f) (check m time) refl e

  -- a call that decides nothing
  pub quiet_refuse : (r : ℕ) → reply a m' ≡ refuse r m → a.rule ≡ 0
  quiet_refuse r e = ap (λ (y : Reply). y.answer.rule) e

  pub quiet_replied : (o : Outcome) → o.rule ≡ 0 → reply a m' ≡ replied m o → a.rule ≡ 0
  unfolding replied
  quiet_replied o z e = by_test o.no_room (λ t. quiet_refuse 9 (rw t at e)) (λ t. ap (λ (y : Reply). y.answer.rule) (rw t at e) ∙ z)

  pub quiet_to : (f : ℕ → ℕ → Outcome) → ((k x : ℕ) → (f k x).rule ≡ 0) → (v : Result (ℕ × ℕ) ℕ) → reply a m' ≡ reply_to m f v → a.rule ≡ 0
  unfolding reply_to
  quiet_to f z (Err r) e = quiet_refuse r e
  quiet_to f z (Ok (k, x)) e = quiet_replied (f k x) (z k x) e

  pub quiet_on : (f : ℕ → Outcome) → ((k : ℕ) → (f k).rule ≡ 0) → (p : Option ℕ) → reply a m' ≡ reply_on m f p → a.rule ≡ 0
  unfolding reply_on
  quiet_on f z None e = quiet_refuse 5 e
  quiet_on f z (Some k) e = quiet_replied (f k) (z k) e

  pub quiet_checked : (time : ℕ) (f : Machine → Reply) → (reply a m' ≡ f (decode m) → a.rule ≡ 0) → reply a m' ≡ checked m time f → a.rule ≡ 0
  unfolding checked_by
  quiet_checked time f g e = go (check m time) e
    where
      go : (w : Result (ℕ × ℕ) ℕ) → reply a m' ≡ checked_by m f w → a.rule ≡ 0
      go (Err r) h = quiet_refuse r h
      go (Ok (c, n)) h = g h

  pub quiet_none : (time : ℕ) → reply a m' ≡ checked m time (λ (M : Machine). refuse 5 m) → a.rule ≡ 0
  quiet_none time e = quiet_checked time (λ (M : Machine). refuse 5 m) (quiet_refuse 5) e
