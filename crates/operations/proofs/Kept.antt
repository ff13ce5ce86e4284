-- A refused operation keeps every word of the image, and all else in its answer is 0. Assumes nothing.
use Rattle.std.specs.Prelude.{if◌then◌else◌, None, Option, Some, Err, Ok, Result}
use mathlib.Core.Path.{◌≡◌, refl, sym, ap, subst}
use mathlib.Core.Bool.{Bool, true, false}
use mathlib.Core.List.{List}
use Prim.Native.Nat.{ℕ}
use lib.Dec.{eqb}
use borrow.Author.Tests.{eqb-true, eqb-false}
use Rattle.columns.proofs.Tests.{by_test}
use Rattle.machine.specs.Machine.{Machine}
use Rattle.machine.specs.Encode.{decode}
use Rattle.machine.specs.LookUp.{look_up, get_percpu_block}
use Rattle.machine.specs.Outcome.{Outcome}
use Rattle.model.specs.Accepted.{Call, by_tick, by_switch, by_direct_switch, outcome}
use Rattle.context_ops.specs.Named.{named}
use Rattle.context_ops.specs.Reply.{Reply, refuse, replied, reply_to, reply_on}
use Rattle.switch_ops.specs.Reply.{refusal, decide_on, decide_by, direct_switch_by}
use Rattle.calls.specs.Call.{check, checked_by, call}
use Rattle.operations.specs.Operation.{operation_reply}
use Rattle.operations.proofs.Dispatched.{call_is}

module _ (m : List ℕ) where
  abbrev pub Keeps : Reply → Type 0
  Keeps y = (y.answer.refusal ≡ 0 → ⊥) → y ≡ refuse y.answer.refusal m

  one_of : (b : Bool) (x y : Reply) → Keeps x → Keeps y → Keeps (if b then x else y)
  one_of true x y f g = f
  one_of false x y f g = g

  replied_keeps : (o : Outcome) → Keeps (replied m o)
  unfolding replied
  replied_keeps o = by_test o.no_room (λ t. rw t (λ n. refl)) (λ t. rw t (λ n. absurd (n refl)))

  decided_keeps : (M : Machine) (time : ℕ) (c : Call) (l : Option ℕ) → Keeps (decide_by m M time c l)
  unfolding decide_by decide_on
  decided_keeps M time c None = λ n. refl
  decided_keeps M time c (Some k) = one_of (eqb (refusal c M k time) 0) _ _ (replied_keeps (outcome c k time M)) (λ n. refl)

  direct_keeps : (M : Machine) (cpu time : ℕ) (l : Option ℕ) → Keeps (direct_switch_by m M cpu time l)
  unfolding direct_switch_by
  direct_keeps M cpu time None = λ n. refl
  direct_keeps M cpu time (Some x) = decided_keeps M time (by_direct_switch x) (get_percpu_block M cpu)

  named_keeps : (f : ℕ → ℕ → Outcome) (w : Result (ℕ × ℕ) ℕ) → Keeps (reply_to m f w)
  unfolding reply_to
  named_keeps f (Err r) = λ n. refl
  named_keeps f (Ok (k, x)) = replied_keeps (f k x)

  on_keeps : (f : ℕ → Outcome) (l : Option ℕ) → Keeps (reply_on m f l)
  unfolding reply_on
  on_keeps f None = λ n. refl
  on_keeps f (Some k) = replied_keeps (f k)

  module _ (operation cpu time context : ℕ) where
    operation_keeps : (M : Machine) → Keeps (operation_reply m M operation cpu time context)
    unfolding operation_reply
    operation_keeps M =
        one_of (eqb operation 1) _ _ (decided_keeps M time by_tick (get_percpu_block M cpu))
        (one_of (eqb operation 2) _ _ (decided_keeps M time by_switch (get_percpu_block M cpu))
        (one_of (eqb operation 3) _ _ (direct_keeps M cpu time (look_up M context))
        (one_of (eqb operation 4) _ _ (named_keeps _ (named M cpu context))
        (one_of (eqb operation 5) _ _ (on_keeps _ (get_percpu_block M cpu))
        (one_of (eqb operation 6) _ _ (named_keeps _ (named M cpu context))
        (one_of (eqb operation 7) _ _ (named_keeps _ (named M cpu context)) (λ n. refl)))))))

    checked_keeps : (w : Result (ℕ × ℕ) ℕ) → Keeps (checked_by m (λ (M : Machine). operation_reply m M operation cpu time context) w)
    unfolding checked_by
    checked_keeps (Err r) = λ n. refl
    checked_keeps (Ok (c, n)) = operation_keeps (decode m)

    pub call_keeps : Keeps (call m operation cpu time context)
    call_keeps = subst Keeps (sym (call_is m operation cpu time context)) (checked_keeps (check m time))

    -- so what has a rule was accepted
    pub rule_accepts : ((call m operation cpu time context).answer.rule ≡ 0 → ⊥) → (call m operation cpu time context).answer.refusal ≡ 0
    rule_accepts f =
        by_test (eqb (call m operation cpu time context).answer.refusal 0) (λ t. eqb-true _ 0 t)
        (λ t. absurd (f (ap (λ (y : Reply). y.answer.rule) (call_keeps (eqb-false _ 0 t)))))
