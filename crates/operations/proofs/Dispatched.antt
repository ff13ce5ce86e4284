-- An operation by its number, on a checked image and of any words. Assumes nothing.
use Rattle.std.specs.Prelude.{if◌then◌else◌, Err, Ok, Result}
use mathlib.Core.Path.{◌≡◌, refl, sym, ◌∙◌}
use mathlib.Core.Bool.{Bool, true, false}
use Prim.Native.Nat.{ℕ}
use mathlib.Core.List.{List}
use lib.Dec.{eqb}
use borrow.Author.Tests.{ne_eqb}
use Rattle.machine.specs.Machine.{Machine}
use Rattle.machine.specs.Encode.{encode}
use Rattle.machine.specs.Shape.{Fits}
use Rattle.machine.specs.LookUp.{get_percpu_block}
use Rattle.model.specs.Accepted.{by_tick, by_switch}
use Rattle.switch_ops.specs.Reply.{decide, direct_switch}
use Rattle.context_ops.specs.Named.{named}
use Rattle.context_ops.specs.Operations.{unblock_context, drain_ipi_context_wakeups, block, hard_block}
use Rattle.answer.specs.declared.Answer.{Answer}
use Rattle.context_ops.specs.Reply.{Reply, reply, refuse, reply_to, reply_on}
use Rattle.calls.specs.Call.{check, checked_by, call}
use Rattle.calls.proofs.Called.{call_refused, call_done}
use Rattle.operations.specs.Operation.{operation_reply}

module _ {y : Reply} (m : List ℕ) (M : Machine) (operation cpu time context : ℕ) where
  pub on_tick : operation ≡ 1 → y ≡ decide m M cpu time by_tick → y ≡ operation_reply m M operation cpu time context
  unfolding operation_reply
  on_tick e h = rw e h

  pub on_switch : operation ≡ 2 → y ≡ decide m M cpu time by_switch → y ≡ operation_reply m M operation cpu time context
  unfolding operation_reply
  on_switch e h = rw e h

  pub on_direct_switch_to : operation ≡ 3 → y ≡ direct_switch m M cpu time context → y ≡ operation_reply m M operation cpu time context
  unfolding operation_reply
  on_direct_switch_to e h = rw e h

  pub on_unblock_context : operation ≡ 4 → y ≡ reply_to m (λ (k x : ℕ). unblock_context k x M) (named M cpu context) → y ≡ operation_reply m M operation cpu time context
  unfolding operation_reply
  on_unblock_context e h = rw e h

  pub on_drain : operation ≡ 5 → y ≡ reply_on m (λ (k : ℕ). drain_ipi_context_wakeups k M) (get_percpu_block M cpu) → y ≡ operation_reply m M operation cpu time context
  unfolding operation_reply
  on_drain e h = rw e h

  pub on_block : operation ≡ 6 → y ≡ reply_to m (λ (k x : ℕ). block x M) (named M cpu context) → y ≡ operation_reply m M operation cpu time context
  unfolding operation_reply
  on_block e h = rw e h

  pub on_hard_block : operation ≡ 7 → y ≡ reply_to m (λ (k x : ℕ). hard_block x M) (named M cpu context) → y ≡ operation_reply m M operation cpu time context
  unfolding operation_reply
  on_hard_block e h = rw e h

  pub on_none : (operation ≡ 1 → ⊥) → (operation ≡ 2 → ⊥) → (operation ≡ 3 → ⊥) → (operation ≡ 4 → ⊥) → (operation ≡ 5 → ⊥) → (operation ≡ 6 → ⊥) → (operation ≡ 7 → ⊥)
      → y ≡ refuse 5 m → y ≡ operation_reply m M operation cpu time context
  unfolding operation_reply
  on_none a b c d e f g h = rw (ne_eqb operation 1 a, ne_eqb operation 2 b, ne_eqb operation 3 c, ne_eqb operation 4 d, ne_eqb operation 5 e, ne_eqb operation 6 f, ne_eqb operation 7 g) h

both_same : {A : Type 0} (b : Bool) (x y : A) → y ≡ x → (if b then x else y) ≡ x
both_same true x y e = refl
both_same false x y e = e

-- the check comes first, whatever the operation
checked_is : (m : List ℕ) (operation cpu time context : ℕ) (w : Result (ℕ × ℕ) ℕ) → w ≡ check m time
    → call m operation cpu time context ≡ checked_by m (λ (M : Machine). operation_reply m M operation cpu time context) w
unfolding call checked_by operation_reply
checked_is m operation cpu time context (Err r) e =
    rw (← e)
    (both_same (eqb operation 1) _ _
    (both_same (eqb operation 2) _ _
    (both_same (eqb operation 3) _ _
    (both_same (eqb operation 4) _ _
    (both_same (eqb operation 5) _ _
    (both_same (eqb operation 6) _ _
    (both_same (eqb operation 7) _ _ refl)))))))
checked_is m operation cpu time context (Ok (c, n)) e = rw (← e)

pub call_is : (m : List ℕ) (operation cpu time context : ℕ)
    → call m operation cpu time context ≡ checked_by m (λ (M : Machine). operation_reply m M operation cpu time context) (check m time)
call_is m operation cpu time context = checked_is m operation cpu time context (check m time) refl

-- w: what the code's check gave
module _ (m : List ℕ) (time : ℕ) (w : Result (ℕ × ℕ) ℕ) (e : w ≡ check m time) (operation cpu context : ℕ) where
  pub refused_is : {a : Answer} (r : ℕ) → w ≡ Err r → a ≡ record { refusal = r; result = 0; interrupt = 0; rule = 0 } → reply a m ≡ call m operation cpu time context
  refused_is r g z =
      call_refused m time w e r (λ (M : Machine). operation_reply m M operation cpu time context) g z ∙ sym (call_is m operation cpu time context)

  pub passed_is : {a : Answer} {m' : List ℕ} (c n : ℕ) → w ≡ Ok (c, n)
      → ((M : Machine) → m ≡ encode M → Fits c n M → reply a m' ≡ operation_reply m M operation cpu time context) → reply a m' ≡ call m operation cpu time context
  passed_is c n g h =
      call_done m time w e c n (λ (M : Machine). operation_reply m M operation cpu time context) g h ∙ sym (call_is m operation cpu time context)
