-- A refused call keeps every word of the image, whatever its operation. Assumes nothing.
use Rattle.std.specs.Prelude.{None, Option, Some, Err, Ok, Result}
use mathlib.Core.Path.{◌≡◌, refl}
use mathlib.Core.List.{List}
use Prim.Native.Nat.{ℕ}
use lib.Dec.{eqb}
use Rattle.machine.specs.Machine.{Machine}
use Rattle.machine.specs.Encode.{decode}
use Rattle.machine.specs.LookUp.{look_up, get_percpu_block}
use Rattle.machine.specs.Outcome.{Outcome}
use Rattle.model.specs.Accepted.{Call, by_tick, by_switch, by_direct_switch, outcome}
use Rattle.model.proofs.Cases.{pick}
use Rattle.context_ops.specs.Named.{named}
use Rattle.context_ops.specs.Reply.{Reply, replied, reply_to, reply_on}
use Rattle.switch_ops.specs.Reply.{refusal, decide_on, decide_by, direct_switch_by}
use Rattle.calls.specs.Call.{check, checked_by, call}
use Rattle.ronthuyal.proofs.Least.{refused_group}
use Rattle.call_weights.specs.Kept.{ImageCall, operation_call, group_call, reply_of}

module _ (m : List ℕ) where
  -- every word of m, if the call is refused
  abbrev Keeps : Reply → Type 0
  Keeps u = (u.answer.refusal ≡ 0 → ⊥) → u.image ≡ m

  replied_keeps : (o : Outcome) → Keeps (replied m o)
  unfolding replied
  replied_keeps o = pick Keeps o.no_room (λ t n. refl) (λ t n. absurd (n refl))

  decided_keeps : (M : Machine) (time : ℕ) (c : Call) (l : Option ℕ) → Keeps (decide_by m M time c l)
  unfolding decide_by decide_on
  decided_keeps M time c None = λ n. refl
  decided_keeps M time c (Some k) = pick Keeps (eqb (refusal c M k time) 0) (λ t. replied_keeps (outcome c k time M)) (λ t n. refl)

  direct_keeps : (M : Machine) (cpu time : ℕ) (l : Option ℕ) → Keeps (direct_switch_by m M cpu time l)
  unfolding direct_switch_by
  direct_keeps M cpu time None = λ n. refl
  direct_keeps M cpu time (Some x) = decided_keeps M time (by_direct_switch x) (get_percpu_block M cpu)

  named_keeps : (f : ℕ → ℕ → Outcome) (w : Result (ℕ × ℕ) ℕ) → Keeps (reply_to m f w)
  unfolding reply_to
  named_keeps f (Err r) = λ n. refl
  named_keeps f (Ok (k, x)) = replied_keeps (f k x)

  on_keeps : (f : ℕ → Outcome) (l : Option ℕ) → Keeps (reply_on m f l)
  unfolding reply_on
  on_keeps f None = λ n. refl
  on_keeps f (Some k) = replied_keeps (f k)

  checked_keeps : (f : Machine → Reply) (w : Result (ℕ × ℕ) ℕ) → Keeps (f (decode m)) → Keeps (checked_by m f w)
  unfolding checked_by
  checked_keeps f (Err r) h = λ n. refl
  checked_keeps f (Ok (c, k)) h = h

  abbrev M : Machine
  M = decode m

  call_keeps : (operation cpu time context : ℕ) → Keeps (call m operation cpu time context)
  unfolding call
  call_keeps operation cpu time context =
      let w : Result (ℕ × ℕ) ℕ = check m time in
      pick Keeps (eqb operation 1) (λ t. checked_keeps _ w (decided_keeps M time by_tick (get_percpu_block M cpu)))
      (λ t. pick Keeps (eqb operation 2) (λ t. checked_keeps _ w (decided_keeps M time by_switch (get_percpu_block M cpu)))
      (λ t. pick Keeps (eqb operation 3) (λ t. checked_keeps _ w (direct_keeps M cpu time (look_up M context)))
      (λ t. pick Keeps (eqb operation 4) (λ t. checked_keeps _ w (named_keeps _ (named M cpu context)))
      (λ t. pick Keeps (eqb operation 5) (λ t. checked_keeps _ w (on_keeps _ (get_percpu_block M cpu)))
      (λ t. pick Keeps (eqb operation 6) (λ t. checked_keeps _ w (named_keeps _ (named M cpu context)))
      (λ t. pick Keeps (eqb operation 7) (λ t. checked_keeps _ w (named_keeps _ (named M cpu context)))
      (λ t. checked_keeps _ w (λ n. refl))))))))

  pub refused_keeps : (c : ImageCall) → ((reply_of m c).answer.refusal ≡ 0 → ⊥) → (reply_of m c).image ≡ m
  refused_keeps (operation_call operation cpu time context) = call_keeps operation cpu time context
  refused_keeps (group_call cpu time mask) = refused_group m cpu time mask
