-- The checker's answer is the condition.
use Rattle.std.specs.Prelude.{None, Option, Some}
use mathlib.Core.Path.{◌≡◌, refl, sym, ap, ◌∙◌}
use mathlib.Core.List.{List}
use Prim.Native.Nat.{ℕ, ◌<◌}
use native.Mathlib.Omega.{arith}
use Rattle.columns.specs.Common.{mark}
use Rattle.answer.specs.declared.Answer.{Answer}
use Rattle.machine.specs.Machine.{Machine}
use Rattle.machine.specs.Encode.{decode}
use Rattle.machine.specs.LookUp.{get_percpu_block}
use Rattle.machine.proofs.LookUps.{mark_true, present}
use Rattle.image.specs.Refusal.{size_c}
use Rattle.image.proofs.Admitted as admitted
use Rattle.model_local.specs.Apart.{Apart, are_apart}
use Rattle.model_local.proofs.Tested.{apart_tests, tests_apart}
use Rattle.apart.specs.Answer.{apart_answer}
use Rattle.context_ops.specs.Reply.{Reply, reply}
use Rattle.calls.proofs.Accepts.{refused_not}
use Rattle.ronthuyal.specs.Apart.{apart_call}
use Rattle.ronthuyal.proofs.Left.{through}
use Rattle.call_order.specs.Checked.{ApartTold}

module _ (a : Answer) (m m' : List ℕ) (one other : ℕ) (z : a.refusal ≡ 0) (p : admitted.Passed 0 m) where
  abbrev M : Machine
  M = decode m

  -- both CPUs were found
  record Found : Type 0 where
    below : one < size_c m
    result : a.result ≡ mark (are_apart M one other)

  by : (k l : Option ℕ) → k ≡ get_percpu_block M one → l ≡ get_percpu_block M other → reply a m' ≡ reply (apart_answer M k l) m → Found
  unfolding apart_answer
  by None l h g e = refused_not 5 m (λ w. omega arith) e z
  by (Some k) None h g e = refused_not 5 m (λ w. omega arith) e z
  by (Some k) (Some l) h g e =
      let i = present M one k h in
      let j = present M other l g in
      let o = admitted.decoded_fits m p in
      record {
        below = rw o.cpus at i.below;
        result = ap (λ (y : Reply). y.answer.result) e ∙ ap (λ (x : ℕ). mark (are_apart M x l)) i.is ∙ ap (λ (x : ℕ). mark (are_apart M one x)) j.is;
      }

  tells : Found → (a.result ≡ 1 → Apart M one other) × (Apart M one other → a.result ≡ 1)
  tells f = (
    λ r. tests_apart M one other (admitted.decoded_fits m p) f.below (mark_true (are_apart M one other) (sym f.result ∙ r)),
    λ h. f.result ∙ ap mark (apart_tests M one other h),
  )

pub apart_told : ApartTold
apart_told m one other z =
    let y = apart_call m one other in
    let (f, g) = through y.answer m y.image one 0 other z _
    (λ p e. tells y.answer m y.image one other z p (by y.answer m y.image one other z p (get_percpu_block (decode m) one) (get_percpu_block (decode m) other) refl refl e)) refl in
    record { apart = f; told = g }
