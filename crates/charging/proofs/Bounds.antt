-- What a charge leaves as it was, and how far the values that grow can go. Assumes nothing.
use mathlib.Core.Path.{◌≡◌}
use Prim.Native.Nat.{ℕ, ◌+◌, ◌-◌, ◌<◌, ◌≤◌, max}
use native.Mathlib.Omega.{arith}
use native.Mathlib.Nat.{div-le_self}
use lib.Dec.{ltb, eqb}
use borrow.Author.Tests.{eqb-false}
use Rattle.context.specs.declared.Context.{Context}
use Rattle.context.specs.With.{with_vtime, with_vd, with_rem_slice}
use Rattle.columns.proofs.Tests.{by_test}
use Rattle.ticks.specs.declared.Spent.{Spent}
use Rattle.weights.specs.Weights.{weight, full_slice, max_whole_slice}
use Rattle.weights.proofs.Table.{whole_slice_high}
use Rattle.charging.specs.Charge.{charged, yield_bound}

module _ (v : ℕ) (e : Spent) (c : Context) where
  -- vtime, vd and rem_slice are all that changes
  pub charged_frame : charged v e c ≡ with_rem_slice (charged v e c).rem_slice (with_vd (charged v e c).vd (with_vtime (charged v e c).vtime c))
  unfolding charged
  charged_frame = by_test (ltb e.elapsed yield_bound) (λ y. rw y) (λ n. rw n (by_test (eqb (c.rem_slice - e.ticks) 0) (λ s. rw s) (λ s. rw s)))

  -- some slice is always left, and no more than a full one
  pub charged_slice : c.rem_slice ≤ full_slice → (0 < (charged v e c).rem_slice) × ((charged v e c).rem_slice ≤ full_slice)
  unfolding charged
  charged_slice h =
      by_test (ltb e.elapsed yield_bound) (λ y. rw y (omega arith, omega arith))
      (λ n. rw n (by_test (eqb (c.rem_slice - e.ticks) 0) (λ s. rw s (omega arith, omega arith)) (λ s. rw s (omega (arith, eqb-false (c.rem_slice - e.ticks) 0 s), omega arith))))

  pub charged_vtime : (charged v e c).vtime ≤ max c.vtime v + e.ticks + c.rem_slice
  unfolding charged
  charged_vtime =
      let a = div-le_self e.ticks (weight c.prio)
      in let b = div-le_self (c.rem_slice - e.ticks) (weight c.prio)
      in
      by_test (ltb e.elapsed yield_bound) (λ y. rw y (omega arith))
      (λ n. rw n (by_test (eqb (c.rem_slice - e.ticks) 0) (λ s. rw s (omega arith)) (λ s. rw s (omega arith))))

  pub charged_vd : c.prio < 40 → (charged v e c).vd ≤ max c.vd ((charged v e c).vtime + max_whole_slice)
  unfolding charged
  charged_vd h =
      let a = whole_slice_high c.prio h
      in
      by_test (ltb e.elapsed yield_bound) (λ y. rw y (omega arith))
      (λ n. rw n (by_test (eqb (c.rem_slice - e.ticks) 0) (λ s. rw s (omega arith)) (λ s. rw s (omega arith))))
