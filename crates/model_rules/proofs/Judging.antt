-- The tests of the choice say what the conditions say. Assumes nothing.
use mathlib.Core.Path.{◌≡◌}
use mathlib.Core.Bool.{true, false, ◌&&◌}
use mathlib.Core.Logic.{◌⊎◌, inl, inr}
use Prim.Native.Nat.{ℕ}
use native.Mathlib.Omega.{arith}
use lib.Dec.{ltb, eqb}
use borrow.Author.Tests.{ltb-true, leb-true, eqb-true, lt-ltb, le-ltb, le-leb, eq-eqb}
use Rattle.context.specs.declared.Context.{Context}
use Rattle.machine.specs.Machine.{Machine}
use Rattle.model.specs.State.{prev_runnable}
use Rattle.model.specs.Choice.{goes_before, prev_is_eligible}
use Rattle.model.specs.Demand3.{judged}
use Rattle.model.proofs.Cases.{by_test, never, and_both, and_true, or_either}
use Rattle.model_rules.specs.ByScan.{Earlier, MoreSlice, OnTime}

-- the deadline decides, or with equal ones the slice
pub earlier_first : (a b : Context) → Earlier a b → goes_before a b ≡ true
earlier_first a b l = rw (lt-ltb a.vd b.vd l)

pub slice_first : (a b : Context) → MoreSlice a b → goes_before a b ≡ true
slice_first a b (e, l) =
    rw (le-ltb a.vd b.vd (omega arith), eq-eqb a.vd b.vd e, lt-ltb b.rem_slice a.rem_slice l)

pub first_by : (a b : Context) → goes_before a b ≡ true → Earlier a b ⊎ MoreSlice a b
first_by a b t = go (or_either (ltb a.vd b.vd) _ t)
  where
    go : (ltb a.vd b.vd ≡ true) ⊎ ((eqb a.vd b.vd && ltb b.rem_slice a.rem_slice) ≡ true) → Earlier a b ⊎ MoreSlice a b
    go (inl z) = inl (ltb-true _ _ z)
    go (inr z) = let (e, l) = and_both (eqb a.vd b.vd) _ z in inr (eqb-true _ _ e, ltb-true _ _ l)

pub not_first : (a b : Context) → (Earlier a b → ⊥) → (MoreSlice a b → ⊥) → goes_before a b ≡ false
not_first a b d s = by_test (goes_before a b) (λ t. absurd (go (first_by a b t))) (λ t. t)
  where
    go : Earlier a b ⊎ MoreSlice a b → ⊥
    go (inl z) = d z
    go (inr z) = s z

module _ (k time : ℕ) (M : Machine) where
  pub on_time : prev_is_eligible (judged k time M) ≡ true → OnTime k time M
  on_time t = let (r, l) = and_both (prev_runnable (judged k time M)) _ t in record { runs = r; in_time = leb-true _ _ l }

  pub is_on_time : OnTime k time M → prev_is_eligible (judged k time M) ≡ true
  is_on_time o = and_true (prev_runnable (judged k time M)) _ o.runs (le-leb _ _ o.in_time)

  pub late : prev_is_eligible (judged k time M) ≡ false → OnTime k time M → ⊥
  late t o = never (is_on_time o) t

  pub is_late : (OnTime k time M → ⊥) → prev_is_eligible (judged k time M) ≡ false
  is_late n = by_test (prev_is_eligible (judged k time M)) (λ t. absurd (n (on_time t))) (λ t. t)
