-- The search from the largest number down. Assumes nothing.
use mathlib.Core.Path.{◌≡◌, refl, sym, ap, ◌∙◌}
use mathlib.Core.Bool.{Bool, true, false}
use Prim.Native.Nat.{ℕ, zero, suc, ◌-◌, ◌<◌, ◌≤◌}
use native.Mathlib.Omega.{arith}
use Rattle.humblest.specs.declared.Humblest.{Humblest}
use Rattle.humblest.specs.Humblest.{refused, found, greatest}

-- g: the answer; no number from p on works. r: what trying the one before p gave
module _ (f : ℕ → Bool) (g : Humblest) where
  pub works_here : (p : ℕ) (r : Bool) → 0 < p → g ≡ greatest f p → r ≡ f (p - 1) → r ≡ true → found (p - 1) ≡ g
  unfolding greatest
  works_here zero r h e t b = absurd (omega arith)
  works_here (suc p) r h e t b =
      let s : suc p - 1 ≡ p = omega arith in
      let y : f p ≡ true = sym (t ∙ ap f s) ∙ b in
      ap found s ∙ sym (rw y at e)

  pub fails_here : (p : ℕ) (r : Bool) → 0 < p → g ≡ greatest f p → r ≡ f (p - 1) → r ≡ false → g ≡ greatest f (p - 1)
  unfolding greatest
  fails_here zero r h e t b = absurd (omega arith)
  fails_here (suc p) r h e t b =
      let s : suc p - 1 ≡ p = omega arith in
      let y : f p ≡ false = sym (t ∙ ap f s) ∙ b in
      (rw y at e) ∙ ap (greatest f) (sym s)

  pub none_left : (p : ℕ) → p ≤ 0 → g ≡ greatest f p → {r : Humblest} → r ≡ refused 0 → r ≡ g
  unfolding greatest
  none_left zero h e z = z ∙ sym e
  none_left (suc p) h e z = absurd (omega arith)
