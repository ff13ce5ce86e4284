-- An image that calls of operation 4 reached, and one call more on it. Assumes nothing.
use Rattle.std.specs.Prelude.{None, Option, Some, Err, Ok, Result}
use mathlib.Core.Path.{◌≡◌, refl, sym, ap, ◌∙◌, subst}
use mathlib.Core.Bool.{true, false}
use mathlib.Core.List.{List}
use Prim.Native.Nat.{ℕ, ◌<◌, ◌≤◌}
use native.Mathlib.Omega.{arith}
use lib.Dec.{eqb}
use Rattle.columns.specs.Common.{mark}
use Rattle.columns.proofs.Tests.{by_test}
use Rattle.context.specs.declared.Context.{Context}
use Rattle.percpu.specs.Cpu.{Cpu}
use Rattle.percpu.proofs.Read.{Short}
use Rattle.machine.specs.Machine.{Machine, context_at, cpu_at, no_cpu}
use Rattle.machine.specs.Encode.{encode, decode}
use Rattle.machine.specs.LookUp.{look_up, get_percpu_block}
use Rattle.machine.specs.Outcome.{Outcome}
use Rattle.machine.proofs.Decoded.{decode_encode}
use Rattle.machine.proofs.LookUps as look_ups
use Rattle.image.specs.Refusal.{size_c, size_n, image_refusal}
use Rattle.image.proofs.Admitted as admitted
use Rattle.model.proofs.Cases.{pick}
use Rattle.model_leaves.proofs.WellFormed.{LiveName, Stands, absent, present, WellFormed}
use Rattle.model_leaves.proofs.Operations.{unblock_leaves}
use Rattle.model_leaves.proofs.Decoding.{well_formed}
use Rattle.model_leaves.proofs.Raising.{decoded_raised, unblock_raises_none}
use Rattle.answer.specs.declared.Answer.{Answer}
use Rattle.context_ops.specs.Named.{named, named_on, named_context}
use Rattle.context_ops.specs.Operations.{unblock_context}
use Rattle.context_ops.specs.Reply.{Reply, replied, reply_to}
use Rattle.context_ops.proofs.Resolved.{IsFound, found}
use Rattle.group_ops.specs.Group.{name_refusal}
use Rattle.calls.specs.Call.{checked_by, unblock_context_call}
use Rattle.calls.proofs.Called.{check_passed}
use Rattle.ronthuyal.proofs.Leaving.{InRange}
use Rattle.ronthuyal.proofs.Left.{unraised_left}
use Rattle.ronthuyal.proofs.Passing.{passes_again}
use Rattle.ronthuyal.proofs.SameNames.{unblock_keeps}
use Rattle.numbers.specs.Limits.{max_number}

-- m' stands for the machine N, and a name means in it what it means in m
pub record Reached (m : List ℕ) (cpu : ℕ) (N : Machine) (m' : List ℕ) : Type 0 where
  pub is : m' ≡ encode N
  pub in_range : InRange (size_c m) (size_n m) N
  pub names : (x : ℕ) → named N cpu x ≡ named (decode m) cpu x

-- the refusals that a name can have
pub record OfName (r : ℕ) : Type 0 where
  pub least : 5 ≤ r
  pub most : r ≤ 6

-- what an accepted call answers
abbrev pub given : Outcome → Answer
given o = record { refusal = 0; result = o.result; interrupt = mark o.interrupt; rule = o.rule }

-- how a call for the name x on an image of N ends: q is the refusal of the name, u the reply
pub data Ends (m : List ℕ) (cpu : ℕ) (N : Machine) (k x q : ℕ) (u : Reply) : Type 0 where
  misnamed : OfName q → u.answer.refusal ≡ q → Reached m cpu N u.image → Ends m cpu N k x q u
  full : q ≡ 0 → (unblock_context k x N).no_room ≡ true → u.answer.refusal ≡ 9 → Reached m cpu N u.image → Ends m cpu N k x q u
  done : q ≡ 0 → (unblock_context k x N).no_room ≡ false → u.answer ≡ given (unblock_context k x N) → Reached m cpu (unblock_context k x N).machine u.image
      → Ends m cpu N k x q u

-- a name's refusal is 5 or 6
module _ (M : Machine) (r : ℕ) where
  is_five : ◌≡◌ {A = Result (ℕ × ℕ) ℕ} (Err r) (Err 5) → OfName r
  is_five e = let z : r ≡ 5 = cc in record { least = omega arith; most = omega arith }

  is_six : ◌≡◌ {A = Result (ℕ × ℕ) ℕ} (Err r) (Err 6) → OfName r
  is_six e = let z : r ≡ 6 = cc in record { least = omega arith; most = omega arith }

  of_context : (k : ℕ) (l : Option ℕ) → Err r ≡ named_context M k l → OfName r
  unfolding named_context
  of_context k None e = is_five e
  of_context k (Some x) e = by_test (eqb (context_at M.contexts x).lock 0) (λ t. never (rw t at e)) (λ t. is_six (rw t at e))
    where
      never : ◌≡◌ {A = Result (ℕ × ℕ) ℕ} (Err r) (Ok (k, x)) → OfName r
      never q = let w : ◌≡◌ {A = ℕ} 0 1 = cc in absurd (omega arith)

  of_cpu : (x : ℕ) (l : Option ℕ) → Err r ≡ named_on M x l → OfName r
  unfolding named_on
  of_cpu x None e = is_five e
  of_cpu x (Some k) e = of_context k (look_up M x) e

  of_name : (cpu x : ℕ) → Err r ≡ named M cpu x → OfName r
  unfolding named
  of_name cpu x e = of_cpu x (get_percpu_block M cpu) e

pub short : {n : ℕ} {cs : List Context} (p : Cpu) → Stands n cs p → Short p
unfolding no_cpu
short p (absent e) = rw e (record { queue = omega arith; timers = omega arith; local = omega arith; ipi = omega arith })
short p (present f r) = record { queue = r.queue; timers = r.timers; local = r.local; ipi = r.ipi }

module _ (m : List ℕ) (cpu time : ℕ) (none : image_refusal time m ≡ 0) where
  abbrev p : admitted.Passed time m
  p = admitted.passed time m none

  pub start : Reached m cpu (decode m) m
  start = record { is = admitted.decoded m p; in_range = record { formed = well_formed m p; raised = decoded_raised m p }; names = λ x. refl }

  module _ (N : Machine) (m' : List ℕ) (s : Reached m cpu N m') where
    abbrev W : WellFormed (size_c m) (size_n m) N
    W = s.in_range.formed

    checks : image_refusal time m' ≡ 0
    checks = passes_again time m m' none (unraised_left (record { M = N; is = s.is; holds = s.in_range })) time p.words.time_most

    decodes : decode m' ≡ N
    decodes = ap decode s.is ∙ decode_encode N (λ k h. short (cpu_at N k) (W.cpu k (omega (arith, W.cpus))))

    -- the call passes the check, and is the operation on N
    pub call_on : (x : ℕ) → unblock_context_call m' cpu time x ≡ reply_to m' (λ (k y : ℕ). unblock_context k y N) (named (decode m) cpu x)
    unfolding checked_by
    call_on x =
        let f : Machine → Reply = λ (L : Machine). reply_to m' (λ (k y : ℕ). unblock_context k y L) (named L cpu x) in
        ap (checked_by m' f) (sym (check_passed m' time 0 (size_c m') (size_n m') (sym checks) refl refl refl))
        ∙ ap f decodes
        ∙ ap (reply_to m' (λ (k y : ℕ). unblock_context k y N)) (s.names x)

    module _ (k x : ℕ) where
      unblocked : IsFound N cpu x k x → (unblock_context k x N).no_room ≡ false → InRange (size_c m) (size_n m) (unblock_context k x N).machine
      unblocked j t =
          let i = j.cpu_is in
          let l = j.context_is in
          let here : k < size_c m = omega (arith, i.is, i.below, W.cpus) in
          let is : (cpu_at N k).block.present ≡ true = subst (λ (y : ℕ). (cpu_at N y).block.present ≡ true) (sym i.is) i.present in
          let o : LiveName (size_n m) N.contexts x = record { below = omega (arith, l.below, W.contexts); live = l.alive } in
          record {
            formed = unblock_leaves (size_c m) (size_n m) k x N W here is o t;
            raised = unblock_raises_none max_number (size_c m) (size_n m) k x N W.cpus here o.below s.in_range.raised;
          }

      free : IsFound N cpu x k x → Ends m cpu N k x 0 (replied m' (unblock_context k x N))
      unfolding replied
      free j =
          pick (Ends m cpu N k x 0) (unblock_context k x N).no_room (λ t. full refl t refl s)
          (λ t. done refl t refl (record { is = refl; in_range = unblocked j t; names = λ y. unblock_keeps k x N cpu y ∙ s.names y }))

      by_name : Some k ≡ get_percpu_block (decode m) cpu → (v : Result (ℕ × ℕ) ℕ) → v ≡ named (decode m) cpu x
          → Ends m cpu N k x (name_refusal v) (reply_to m' (λ (i y : ℕ). unblock_context i y N) v)
      unfolding reply_to name_refusal
      by_name h (Err r) e = misnamed (of_name (decode m) r cpu x e) refl s
      by_name h (Ok (i, y)) e =
          let j = found N cpu x i y (e ∙ sym (s.names x)) in
          let a : i ≡ k = j.cpu_is.is ∙ sym (look_ups.present (decode m) cpu k h).is in
          let b : y ≡ x = j.context_is.is in
          rw (a, b) (free (rw (a, b) at j))

      pub ends : Some k ≡ get_percpu_block (decode m) cpu → Ends m cpu N k x (name_refusal (named (decode m) cpu x)) (unblock_context_call m' cpu time x)
      ends h = subst (Ends m cpu N k x (name_refusal (named (decode m) cpu x))) (sym (call_on x)) (by_name h (named (decode m) cpu x) refl)
