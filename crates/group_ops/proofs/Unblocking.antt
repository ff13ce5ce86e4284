-- Unblocking one context, and one context more. Assumes nothing.
use Rattle.std.specs.Prelude.{None, Option, Some}
use mathlib.Core.Path.{◌≡◌, refl}
use mathlib.Core.Bool.{Bool, true, false, ◌||◌}
use mathlib.Core.List.{List, [], ◌∷◌}
use Prim.Native.Nat.{ℕ, ◌-◌, ◌<◌, ◌≤◌, max}
use native.Mathlib.Omega.{arith}
use lib.Dec.{eqb}
use borrow.Author.Tests.{leb-false}
use Rattle.columns.specs.Common.{mark, fold}
use Rattle.columns.proofs.Tests.{by_test}
use Rattle.context.specs.declared.Context.{Context}
use Rattle.context.specs.Status.{is_runnable}
use Rattle.context.specs.Block.{unblocked}
use Rattle.machine.specs.Machine.{Machine, context_at, cpu_at, set_context}
use Rattle.machine.specs.LookUp.{get_percpu_block}
use Rattle.machine.specs.Outcome.{Outcome}
use Rattle.machine.specs.Shape.{Fits}
use Rattle.machine.proofs.LookUps.{present}
use Rattle.machine.proofs.Steps.{fits_context, fits_cpu}
use Rattle.context_ops.specs.Wakeup.{other_cpu, push_local, push_ipi, wakeup_on, wakeup_context}
use Rattle.context_ops.specs.Operations.{unblock_context}
use Rattle.wakeup_lists.specs.declared.WakeupList.TheVariants.{Local, Ipi}
use Rattle.context_ops.proofs.Waking.{fits_pushed}
use Rattle.context_ops.proofs.Operated.{fits_unblocked}
use Rattle.group_ops.specs.Group.{also_unblock}

-- once a list had no room the set is refused
pub full_stays : (k : ℕ) (xs : List ℕ) (o : Outcome) → o.no_room ≡ true → (fold (also_unblock k) o xs).no_room ≡ true
unfolding also_unblock
full_stays k [] o e = e
full_stays k (x ∷ xs) o e = full_stays k xs (also_unblock k o x) (rw e)

-- what holds of any outcome of a wake-up, and where there is none, holds of unblocking
module _ (P : Outcome → Type 0) (k x : ℕ) (M : Machine) where
  abbrev q : Context
  q = context_at M.contexts x

  pub by_unblock : P (wakeup_context k x 1 (set_context x (unblocked q).context M)) → P (wakeup_context k x 0 M) → P (record { machine = M; result = 0; interrupt = false; rule = 0; no_room = false })
      → P (unblock_context k x M)
  unfolding unblock_context
  by_unblock f g h =
      by_test (unblocked q).done (λ t. rw t f) (λ t. by_test (is_runnable q.status) (λ u. rw (t, u) g) (λ u. rw (t, u) h))

woken_result : (k x r : ℕ) (M : Machine) (p : Option ℕ) → (wakeup_on k x r M p).result ≡ r
unfolding wakeup_on
woken_result k x r M None = refl
woken_result k x r M (Some t) = refl

pub result_small : (k x : ℕ) (M : Machine) → (unblock_context k x M).result ≤ 1
unfolding wakeup_context
result_small k x M =
    by_unblock (λ (o : Outcome). o.result ≤ 1) k x M (rw (woken_result k x 1) (omega arith)) (rw (woken_result k x 0) (omega arith)) (omega arith)

woken_rule : (k x r : ℕ) (M : Machine) (p : Option ℕ) → (wakeup_on k x r M p).rule ≡ 0
unfolding wakeup_on
woken_rule k x r M None = refl
woken_rule k x r M (Some t) = refl

-- nothing is decided
pub unblock_rule : (k x : ℕ) (M : Machine) → (unblock_context k x M).rule ≡ 0
unfolding wakeup_context
unblock_rule k x M = by_unblock (λ (o : Outcome). o.rule ≡ 0) k x M (woken_rule k x 1 _ _) (woken_rule k x 0 _ _) refl

-- the CPU of a record's CPU word is one of the machine's
other_below : {c n : ℕ} (k w t : ℕ) (M : Machine) → Fits c n M → Some t ≡ other_cpu k w M → t < c
unfolding other_cpu
other_below {c} k w t M o e =
    by_test (eqb w 0) (λ f. no (rw f at e)) (λ f. by_test (eqb (w - 1) k) (λ g. no (rw (f, g) at e)) (λ g. below (rw (f, g) at e)))
  where
    no : Some t ≡ None → t < c
    no z = let y : ◌≡◌ {A = ℕ} 0 1 = cc in absurd (omega arith)

    below : Some t ≡ get_percpu_block M (w - 1) → t < c
    below z = let p = present M (w - 1) t z in omega (arith, p.is, p.below, o.cpus)

woken_fits : {c n : ℕ} (k x r w : ℕ) (M : Machine) (p : Option ℕ) → Fits c n M → k < c → x < n → p ≡ other_cpu k w M → (wakeup_on k x r M p).no_room ≡ false → Fits c n (wakeup_on k x r M p).machine
unfolding wakeup_on push_local push_ipi
woken_fits {n = n} k x r w M None o h b e z = fits_cpu M k _ o (fits_pushed Local n x (cpu_at M k) b (leb-false 64 _ z) (o.cpu k h))
woken_fits {n = n} k x r w M (Some t) o h b e z =
    fits_cpu M t _ o (fits_pushed Ipi n x (cpu_at M t) b (leb-false 64 _ z) (o.cpu t (other_below k w t M o e)))

pub unblock_fits : {c n : ℕ} (k x : ℕ) (M : Machine) → Fits c n M → k < c → x < n → (unblock_context k x M).no_room ≡ false → Fits c n (unblock_context k x M).machine
unfolding wakeup_context
unblock_fits {c} {n} k x M o h b =
    by_unblock (λ (o' : Outcome). o'.no_room ≡ false → Fits c n o'.machine) k x M
    (woken_fits k x 1 _ _ _ (fits_context M x _ o (fits_unblocked (context_at M.contexts x) (o.context x b))) h b refl)
    (woken_fits k x 0 _ M _ o h b refl)
    (λ z. o)

-- a mark's word, of either
pub mark_either : (a b : Bool) → max (mark a) (mark b) ≡ mark (a || b)
mark_either true true = refl
mark_either true false = refl
mark_either false true = refl
mark_either false false = refl
