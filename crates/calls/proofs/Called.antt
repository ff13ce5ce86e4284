-- A call, from what the check and the operation said. Assumes nothing.
use Rattle.context_ops.proofs.Resolved.{first_found, second_found}
use Rattle.std.specs.Prelude.{if◌then◌else◌, Err, Ok, Result}
use mathlib.Core.Path.{◌≡◌, refl, sym, ap, ◌∙◌}
use mathlib.Core.Bool.{Bool, true, false}
use Prim.Native.Nat.{ℕ, ◌≤◌}
use lib.ListN.{length}
use mathlib.Core.List.{List}
use native.Mathlib.Omega.{arith}
use Rattle.columns.proofs.Tests.{by_test}
use lib.Dec.{eqb}
use borrow.Author.Tests.{eqb-true, eqb-false, ne_eqb}
use Rattle.machine.specs.Machine.{Machine}
use Rattle.machine.specs.Encode.{encode, decode}
use Rattle.machine.specs.Shape.{Fits, Image}
use Rattle.image.specs.Refusal.{size_c, size_n, image_refusal}
use Rattle.image.proofs.Admitted.{passed, decoded, decoded_fits, admitted}
use Rattle.stages.specs.Stage.{Ranged}
use Rattle.admission.proofs.Bounds.{ranged}
use Rattle.answer.specs.declared.Answer.{Answer}
use Rattle.context_ops.specs.Reply.{Reply, reply, refuse}
use Rattle.calls.specs.Call.{check, checked, checked_by, no_operation_call}
use Rattle.numbers.specs.Limits.{max_number}

-- the check, from its refusal r; c and n are the sizes as the code has them
pub check_refused : (m : List ℕ) (time r : ℕ) → r ≡ image_refusal time m → (r ≡ 0 → ⊥) → Err r ≡ check m time
unfolding check
check_refused m time r e n = rw (← e, ne_eqb r 0 n)

pub check_passed : (m : List ℕ) (time r c n : ℕ) → r ≡ image_refusal time m → r ≡ 0 → c ≡ size_c m → n ≡ size_n m → Ok (c, n) ≡ check m time
unfolding check
check_passed m time r c n e z hc hn = rw (sym e ∙ z, hc, hn)

-- an image that passes has its two sizes
pub long_enough : (m : List ℕ) (time r : ℕ) → r ≡ image_refusal time m → r ≡ 0 → 2 ≤ length m
long_enough m time r e z = omega (arith, (passed time m (sym e ∙ z)).size)

-- what passing says
pub record IsPassed (m : List ℕ) (time c n : ℕ) : Type 0 where
  pub none : image_refusal time m ≡ 0
  pub cpus : c ≡ size_c m
  pub names : n ≡ size_n m

pub is_passed : (m : List ℕ) (time c n : ℕ) → Ok (c, n) ≡ check m time → IsPassed m time c n
unfolding check
is_passed m time c n e =
    by_test (eqb (image_refusal time m) 0) (λ t. yes (eqb-true (image_refusal time m) 0 t) (rw t at e)) (λ t. no (rw t at e))
  where
    yes : image_refusal time m ≡ 0 → ◌≡◌ {A = Result (ℕ × ℕ) ℕ} (Ok (c, n)) (Ok (size_c m, size_n m)) → IsPassed m time c n
    yes z q = record { none = z; cpus = ap first_found q; names = ap second_found q }

    no : ◌≡◌ {A = Result (ℕ × ℕ) ℕ} (Ok (c, n)) (Err (image_refusal time m)) → IsPassed m time c n
    no q = let w : ◌≡◌ {A = ℕ} 0 1 = cc in absurd (omega arith)

-- what refusing says
pub is_refused : (m : List ℕ) (time r : ℕ) → Err r ≡ check m time → r ≡ 0 → ⊥
unfolding check
is_refused m time r e z =
    by_test (eqb (image_refusal time m) 0) (λ t. yes (rw t at e)) (λ t. no (eqb-false (image_refusal time m) 0 t) (rw t at e))
  where
    yes : ◌≡◌ {A = Result (ℕ × ℕ) ℕ} (Err r) (Ok (size_c m, size_n m)) → ⊥
    yes q = let w : ◌≡◌ {A = ℕ} 0 1 = cc in omega arith

    no : (image_refusal time m ≡ 0 → ⊥) → ◌≡◌ {A = Result (ℕ × ℕ) ℕ} (Err r) (Err (image_refusal time m)) → ⊥
    no f q = let w : r ≡ image_refusal time m = cc in f (sym w ∙ z)

-- a call that leaves the image
pub same_reply : (m : List ℕ) (a b : Answer) → a ≡ b → reply a m ≡ reply b m
same_reply m a b e = ap (λ (y : Answer). reply y m) e

-- w: what the code's check gave
module _ (m : List ℕ) (time : ℕ) (w : Result (ℕ × ℕ) ℕ) (e : w ≡ check m time) where
  pub call_refused : {a : Answer} (r : ℕ) (f : Machine → Reply) → w ≡ Err r → a ≡ record { refusal = r; result = 0; interrupt = 0; rule = 0 } → reply a m ≡ checked m time f
  unfolding checked_by
  call_refused r f g z = rw (← e, g) (ap (λ (b : Answer). reply b m) z)

  pub call_image : (c n : ℕ) → w ≡ Ok (c, n) → Image c n m
  call_image c n g = let p = is_passed m time c n (sym g ∙ e) in rw (p.cpus, p.names) (admitted m (passed time m p.none))

  pub call_none : (c n : ℕ) → w ≡ Ok (c, n) → image_refusal time m ≡ 0
  call_none c n g = (is_passed m time c n (sym g ∙ e)).none

  pub call_time : (c n : ℕ) → w ≡ Ok (c, n) → time ≤ max_number
  call_time c n g = (passed time m (call_none c n g)).words.time_most

  pub call_ranged : (c n : ℕ) → w ≡ Ok (c, n) → Ranged c n max_number max_number m
  call_ranged c n g = let p = is_passed m time c n (sym g ∙ e) in rw (p.cpus, p.names) (ranged m (passed time m p.none))

  pub call_machine : {A : Machine → Type 0} (c n : ℕ) → w ≡ Ok (c, n) → ((M : Machine) → m ≡ encode M → Fits c n M → A M) → A (decode m)
  call_machine c n g h =
      let p = is_passed m time c n (sym g ∙ e)
      in h (decode m) (decoded m (passed time m p.none)) (rw (p.cpus, p.names) (decoded_fits m (passed time m p.none)))

  pub call_done : {a : Answer} {m' : List ℕ} (c n : ℕ) (f : Machine → Reply) → w ≡ Ok (c, n)
      → ((M : Machine) → m ≡ encode M → Fits c n M → reply a m' ≡ f M) → reply a m' ≡ checked m time f
  unfolding checked_by
  call_done c n f g h =
      let p = is_passed m time c n (sym g ∙ e)
      in rw (← e, g) (h (decode m) (decoded m (passed time m p.none)) (rw (p.cpus, p.names) (decoded_fits m (passed time m p.none))))

  pub call_no_operation : {a : Answer} (c n : ℕ) → w ≡ Ok (c, n) → a ≡ record { refusal = 5; result = 0; interrupt = 0; rule = 0 } → reply a m ≡ no_operation_call m time
  unfolding checked_by
  call_no_operation c n g z = rw (← e, g) (ap (λ (b : Answer). reply b m) z)
