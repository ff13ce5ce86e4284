-- The code's steps are those of the definition, and what a charge can add. Assumes nothing.
use mathlib.Core.Path.{◌≡◌}
use Prim.Native.Nat.{ℕ, ◌+◌, ◌-◌, ◌/◌, ◌<◌, ◌≤◌, max}
use borrow.Author.Tests.{lt-ltb, le-ltb}
use Rattle.context.specs.declared.Context.{Context}
use Rattle.context.specs.With.{with_vtime, with_rem_slice}
use Rattle.ticks.specs.declared.Spent.{Spent}
use Rattle.weights.specs.Weights.{weight}
use Rattle.charging.specs.Charge.{charged, renewed, yield_bound}

-- in the code's words: the weight w, the slice left l, the vtime x
module _ (c : Context) (v : ℕ) (e : Spent) (w l x : ℕ) (hw : w ≡ weight c.prio) (hl : l ≡ c.rem_slice - e.ticks) (hx : x ≡ max (c.vtime + e.ticks / w) v) where
  pub charged_yield : e.elapsed < yield_bound → renewed (with_rem_slice 0 (with_vtime (x + l / w) c)) ≡ charged v e c
  unfolding charged
  charged_yield h = rw (lt-ltb e.elapsed yield_bound h, hx, hl, hw)

  pub charged_turn : yield_bound ≤ e.elapsed → renewed (with_rem_slice l (with_vtime x c)) ≡ charged v e c
  unfolding charged
  charged_turn h = rw (le-ltb e.elapsed yield_bound h, hx, hl, hw)
