-- What an operation leaves of an image that is known to pass: the image as it was, or that of a machine of which P holds. Assumes nothing.
use Rattle.std.specs.Prelude.{if◌then◌else◌, None, Option, Some}
use mathlib.Core.Path.{◌≡◌, refl}
use mathlib.Core.Logic.{◌⊎◌, inl, inr}
use mathlib.Core.Bool.{Bool, true, false}
use mathlib.Core.List.{List}
use Prim.Native.Nat.{ℕ, ◌<◌}
use native.Mathlib.Omega.{arith}
use lib.Dec.{eqb}
use lib.ListN.{length}
use borrow.Author.Tests.{eqb-true}
use Rattle.columns.proofs.Tests.{by_test}
use Rattle.context.specs.declared.Status.{Status}
use Rattle.context.specs.declared.Status.TheVariants.{Blocked, Stopped}
use Rattle.machine.specs.Machine.{Machine, context_at, cpu_at}
use Rattle.machine.specs.Encode.{encode}
use Rattle.machine.specs.LookUp.{look_up, get_percpu_block}
use Rattle.machine.specs.Outcome.{Outcome}
use Rattle.machine.proofs.LookUps.{live, present}
use Rattle.model.specs.Accepted.{Call, by_tick, by_switch, by_direct_switch, outcome}
use Rattle.model_leaves.proofs.WellFormed.{LiveName}
use Rattle.model_leaves.proofs.Deciding.{TargetFormed}
use Rattle.context_ops.specs.Named.{named, named_on, named_context}
use Rattle.context_ops.specs.Operations.{unblock_context, drain_ipi_context_wakeups, block_with}
use Rattle.context_ops.specs.Reply.{Reply, replied, reply_to, reply_on}
use Rattle.switch_ops.specs.Reply.{refusal, decide_on, decide_by, direct_switch_by}
use Rattle.operations.specs.Operation.{operation_reply}

-- m' stands for a machine of which P holds
pub record StandsFor (P : Machine → Type 0) (m' : List ℕ) : Type 0 where
  pub M : Machine
  pub is : m' ≡ encode M
  pub holds : P M

-- M: a machine of c CPUs and n contexts; P: what every accepted operation of that number leaves
pub record Promised (P : Machine → Type 0) (c n : ℕ) (M : Machine) (operation cpu time : ℕ) : Type 0 where
  pub on_decision : (call : Call) → operation < 4 → cpu < c → (cpu_at M cpu).block.present ≡ true → TargetFormed n M.contexts call → refusal call M cpu time ≡ 0
      → (outcome call cpu time M).no_room ≡ false → P (outcome call cpu time M).machine
  pub on_unblock : (x : ℕ) → cpu < c → (cpu_at M cpu).block.present ≡ true → LiveName n M.contexts x → (unblock_context cpu x M).no_room ≡ false → P (unblock_context cpu x M).machine
  pub on_drain : cpu < c → (cpu_at M cpu).block.present ≡ true → (drain_ipi_context_wakeups cpu M).no_room ≡ false → P (drain_ipi_context_wakeups cpu M).machine
  pub on_block : (s : Status) (x : ℕ) → LiveName n M.contexts x → P (block_with s x M).machine

module _ (P : Machine → Type 0) (c n : ℕ) (m : List ℕ) (M : Machine) (lc : length M.cpus ≡ c) (ln : length M.contexts ≡ n) (operation cpu time context : ℕ) (p : Promised P c n M operation cpu time) where
  abbrev pub Leaves : Reply → Type 0
  Leaves y = (y.image ≡ m) ⊎ StandsFor P y.image

  after : (o : Outcome) → (o.no_room ≡ false → P o.machine) → Leaves (replied m o)
  unfolding replied
  after o f = by_test o.no_room (λ t. rw t (inl refl)) (λ t. rw t (inr (record { M = o.machine; is = refl; holds = f t })))

  -- the CPU and the context, as the look-ups found them
  record Here (k : ℕ) : Type 0 where
    is : k ≡ cpu
    below : cpu < c
    present : (cpu_at M cpu).block.present ≡ true

  here : (k : ℕ) → Some k ≡ get_percpu_block M cpu → Here k
  here k h = let i = present M cpu k h in record { is = i.is; below = omega (arith, i.below); present = i.present }

  live_name : (x : ℕ) → Some x ≡ look_up M context → LiveName n M.contexts x
  live_name x h = let i = live M context x h in rw i.is (record { below = omega (arith, i.below); live = i.alive })

  decided : operation < 4 → (call : Call) → TargetFormed n M.contexts call → (k : ℕ) → Here k → Leaves (decide_on m M k time call)
  unfolding decide_on
  decided o call t k h =
      rw h.is
      (by_test (eqb (refusal call M cpu time) 0)
      (λ y. rw y (after (outcome call cpu time M) (p.on_decision call o h.below h.present t (eqb-true (refusal call M cpu time) 0 y))))
      (λ y. rw y (inl refl)))

  by : operation < 4 → (call : Call) → TargetFormed n M.contexts call → (l : Option ℕ) → l ≡ get_percpu_block M cpu → Leaves (decide_by m M time call l)
  unfolding decide_by
  by o call t None h = inl refl
  by o call t (Some k) h = decided o call t k (here k h)

  directly : operation < 4 → (l : Option ℕ) → l ≡ look_up M context → Leaves (direct_switch_by m M cpu time l)
  unfolding direct_switch_by
  directly o None h = inl refl
  directly o (Some x) h = by o (by_direct_switch x) (live_name x h) (get_percpu_block M cpu) refl

  on : (l : Option ℕ) → l ≡ get_percpu_block M cpu → Leaves (reply_on m (λ (k : ℕ). drain_ipi_context_wakeups k M) l)
  unfolding reply_on
  on None h = inl refl
  on (Some k) h = let i = here k h in rw i.is (after (drain_ipi_context_wakeups cpu M) (p.on_drain i.below i.present))

  -- f: operation 4, 6 or 7
  module _ (f : ℕ → ℕ → Outcome) (g : (x : ℕ) → cpu < c → (cpu_at M cpu).block.present ≡ true → LiveName n M.contexts x → (f cpu x).no_room ≡ false → P (f cpu x).machine) where
    to_context : (k : ℕ) → Here k → (l : Option ℕ) → l ≡ look_up M context → Leaves (reply_to m f (named_context M k l))
    unfolding named_context reply_to
    to_context k i None h = inl refl
    to_context k i (Some x) h =
        rw i.is (by_test (eqb (context_at M.contexts x).lock 0) (λ t. rw t (after (f cpu x) (g x i.below i.present (live_name x h)))) (λ t. rw t (inl refl)))

    to_cpu : (l : Option ℕ) → l ≡ get_percpu_block M cpu → Leaves (reply_to m f (named_on M context l))
    unfolding named_on reply_to
    to_cpu None h = inl refl
    to_cpu (Some k) h = to_context k (here k h) (look_up M context) refl

    to : Leaves (reply_to m f (named M cpu context))
    unfolding named
    to = to_cpu (get_percpu_block M cpu) refl

  one_of : (b : Bool) (x y : Reply) → (b ≡ true → Leaves x) → Leaves y → Leaves (if b then x else y)
  one_of true x y f g = f refl
  one_of false x y f g = g

  few : (i : ℕ) → i < 4 → eqb operation i ≡ true → operation < 4
  few i h e = omega (arith, eqb-true operation i e)

  pub operation_leaves : Leaves (operation_reply m M operation cpu time context)
  unfolding operation_reply
  operation_leaves =
      one_of (eqb operation 1) _ _ (λ e. by (few 1 (omega arith) e) by_tick tt (get_percpu_block M cpu) refl)
      (one_of (eqb operation 2) _ _ (λ e. by (few 2 (omega arith) e) by_switch tt (get_percpu_block M cpu) refl)
      (one_of (eqb operation 3) _ _ (λ e. directly (few 3 (omega arith) e) (look_up M context) refl)
      (one_of (eqb operation 4) _ _ (λ e. to (λ (k x : ℕ). unblock_context k x M) p.on_unblock)
      (one_of (eqb operation 5) _ _ (λ e. on (get_percpu_block M cpu) refl)
      (one_of (eqb operation 6) _ _ (λ e. to (λ (k x : ℕ). block_with Blocked x M) (λ x a b l z. p.on_block Blocked x l))
      (one_of (eqb operation 7) _ _ (λ e. to (λ (k x : ℕ). block_with Stopped x M) (λ x a b l z. p.on_block Stopped x l)) (inl refl)))))))
