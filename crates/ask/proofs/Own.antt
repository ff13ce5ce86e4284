-- A switch of any words that is refused: it keeps every word, and its number is at most 9. Assumes nothing.
use Rattle.std.specs.Prelude.{if◌then◌else◌, None, Option, Some, Err, Ok, Result}
use mathlib.Core.Path.{◌≡◌, refl, sym}
use mathlib.Core.Bool.{Bool, true, false, not}
use Prim.Native.Nat.{ℕ, ◌≤◌}
use native.Mathlib.Omega.{arith}
use mathlib.Core.List.{List}
use lib.Dec.{ltb, eqb}
use lib.ListN.{length}
use Rattle.columns.proofs.Tests.{by_test}
use Rattle.machine.specs.Machine.{Machine, cpu_at}
use Rattle.machine.specs.Encode.{decode, cpu_place}
use Rattle.machine.specs.LookUp.{get_percpu_block}
use Rattle.machine.specs.Outcome.{Outcome}
use Rattle.image_structure.specs.Structure.{structure}
use Rattle.image.specs.Refusal.{size_c, size_n, in_bounds, ranges, sized_refusal, image_refusal}
use Rattle.model.specs.Accepted.{by_switch, outcome}
use Rattle.admission.specs.Refusals.{decision_locked, is_late, decision_refusal}
use Rattle.context_ops.specs.Reply.{Reply, refuse, replied}
use Rattle.switch_ops.specs.Reply.{refusal, decide_on, decide_by, decide}
use Rattle.calls.specs.Call.{check, checked_by, switch_call}

-- y keeps every word of m, and all else in its answer is 0, if it is refused
abbrev pub Keeps : List ℕ → Reply → Type 0
Keeps m y = (y.answer.refusal ≡ 0 → ⊥) → y ≡ refuse y.answer.refusal m

replied_keeps : (m : List ℕ) (o : Outcome) → Keeps m (replied m o)
unfolding replied
replied_keeps m o = by_test o.no_room (λ t. rw t (λ n. refl)) (λ t. rw t (λ n. absurd (n refl)))

on_keeps : (m : List ℕ) (M : Machine) (k time : ℕ) → Keeps m (decide_on m M k time by_switch)
unfolding decide_on
on_keeps m M k time =
    by_test (eqb (refusal by_switch M k time) 0) (λ t. rw t (replied_keeps m (outcome by_switch k time M))) (λ t. rw t (λ n. refl))

by_keeps : (m : List ℕ) (M : Machine) (time : ℕ) (p : Option ℕ) → Keeps m (decide_by m M time by_switch p)
unfolding decide_by
by_keeps m M time None = λ n. refl
by_keeps m M time (Some k) = on_keeps m M k time

checked_keeps : (m : List ℕ) (cpu time : ℕ) (w : Result (ℕ × ℕ) ℕ) → Keeps m (checked_by m (λ (M : Machine). decide m M cpu time by_switch) w)
unfolding checked_by
checked_keeps m cpu time (Err r) = λ n. refl
checked_keeps m cpu time (Ok (c, n)) = by_keeps m (decode m) time (get_percpu_block (decode m) cpu)

pub switch_keeps : (m : List ℕ) (cpu time : ℕ) → Keeps m (switch_call m cpu time)
switch_keeps m cpu time = checked_keeps m cpu time (check m time)

-- the numbers that a switch has of its own
both_most : (b : Bool) (x y n : ℕ) → x ≤ n → y ≤ n → (if b then x else y) ≤ n
both_most true x y n h g = h
both_most false x y n h g = g

image_most : (m : List ℕ) (time : ℕ) → image_refusal time m ≤ 4
unfolding image_refusal sized_refusal
image_most m time =
    both_most (ltb (length m) 2) 1 _ 4 (omega arith)
    (both_most (not (in_bounds (size_c m) 4)) 1 _ 4 (omega arith)
    (both_most (not (in_bounds (size_n m) 64)) 1 _ 4 (omega arith)
    (both_most (not (eqb (length m) (cpu_place (size_n m) (size_c m)))) 2 _ 4 (omega arith)
    (both_most (not (ranges time m)) 3 _ 4 (omega arith)
    (both_most (not (structure (size_c m) (size_n m) m)) 4 0 4 (omega arith) (omega arith))))))

decision_most : (M : Machine) (k time : ℕ) → refusal by_switch M k time ≤ 9
unfolding decision_refusal
decision_most M k time = both_most (decision_locked M k) 6 _ 9 (omega arith) (both_most (is_late time (cpu_at M k).block) 8 0 9 (omega arith) (omega arith))

-- of a reply
abbrev Most : Reply → Type 0
Most y = y.answer.refusal ≤ 9

replied_most : (m : List ℕ) (o : Outcome) → Most (replied m o)
unfolding replied
replied_most m o = by_test o.no_room (λ t. rw t (omega arith)) (λ t. rw t (omega arith))

on_most : (m : List ℕ) (M : Machine) (k time : ℕ) → Most (decide_on m M k time by_switch)
unfolding decide_on
on_most m M k time =
    by_test (eqb (refusal by_switch M k time) 0) (λ t. rw t (replied_most m (outcome by_switch k time M))) (λ t. rw t (decision_most M k time))

by_most : (m : List ℕ) (M : Machine) (time : ℕ) (p : Option ℕ) → Most (decide_by m M time by_switch p)
unfolding decide_by
by_most m M time None = omega arith
by_most m M time (Some k) = on_most m M k time

refused_is : (m : List ℕ) (time r : ℕ) → Err r ≡ check m time → r ≡ image_refusal time m
unfolding check
refused_is m time r e = by_test (eqb (image_refusal time m) 0) (λ t. passed (rw t at e)) (λ t. told (rw t at e))
  where
    passed : ◌≡◌ {A = Result (ℕ × ℕ) ℕ} (Err r) (Ok (size_c m, size_n m)) → r ≡ image_refusal time m
    passed q = let w : ◌≡◌ {A = ℕ} 0 1 = cc in absurd (omega arith)

    told : ◌≡◌ {A = Result (ℕ × ℕ) ℕ} (Err r) (Err (image_refusal time m)) → r ≡ image_refusal time m
    told q = cc

checked_most : (m : List ℕ) (cpu time : ℕ) (w : Result (ℕ × ℕ) ℕ) → w ≡ check m time → Most (checked_by m (λ (M : Machine). decide m M cpu time by_switch) w)
unfolding checked_by
checked_most m cpu time (Err r) e = omega (arith, image_most m time, refused_is m time r e)
checked_most m cpu time (Ok (c, n)) e = by_most m (decode m) time (get_percpu_block (decode m) cpu)

pub switch_most : (m : List ℕ) (cpu time : ℕ) → (switch_call m cpu time).answer.refusal ≤ 9
switch_most m cpu time = checked_most m cpu time (check m time) refl
