-- Refusals in line, from what the pass has found. Assumes nothing.
use mathlib.Core.Path.{◌≡◌, refl, sym, ◌∙◌}
use mathlib.Core.Bool.{Bool, true, false}
use Prim.Native.Nat.{ℕ, ◌+◌, ◌<◌, ◌≤◌}
use native.Mathlib.Omega.{arith}
use Rattle.columns.specs.Common.{tabulate}
use Rattle.columns.proofs.Tests.{every_no, every_none, every_next}
use Rattle.board.specs.Board.{Cue}
use Rattle.cue_line.specs.Line.{rows_fit, all_rows_fit, starts_rise, line_refusal}
use Rattle.cue_line.proofs.Lined.{last_start, fit_every}

module _ (f : ℕ → Cue) where
  -- a row that is too long
  pub pass_stops : (n i : ℕ) (t : Bool) → i < n → t ≡ rows_fit (f i) → t ≡ false → 10 ≡ line_refusal (tabulate n f)
  unfolding line_refusal
  pass_stops n i t h e z = rw (fit_every f n ∙ every_no (λ (j : ℕ). rows_fit (f j)) n i h (sym e ∙ z))

  pub fit_none : all_rows_fit (tabulate 0 f) ≡ true
  fit_none = fit_every f 0 ∙ every_none (λ (j : ℕ). rows_fit (f j))

  pub fit_next : (i : ℕ) (t : Bool) → all_rows_fit (tabulate i f) ≡ true → t ≡ rows_fit (f i) → t ≡ true → all_rows_fit (tabulate (i + 1) f) ≡ true
  fit_next i t e g h = fit_every f (i + 1) ∙ every_next (λ (j : ℕ). rows_fit (f j)) i (sym (fit_every f i) ∙ e) (sym g ∙ h)

  pub rise_none : true ≡ starts_rise (tabulate 0 f)
  unfolding starts_rise tabulate
  rise_none = refl

  pub last_none : 0 ≡ last_start (tabulate 0 f)
  unfolding last_start tabulate
  last_none = refl

  -- the pass is at its end
  module _ (n i : ℕ) (rise : Bool) (h : i ≤ n) (g : n ≤ i) (e : all_rows_fit (tabulate i f) ≡ true) (u : rise ≡ starts_rise (tabulate i f)) where
    end : i ≡ n
    end = omega arith

    pub pass_rises : rise ≡ true → 0 ≡ line_refusal (tabulate n f)
    unfolding line_refusal
    pass_rises z = rw (← end, e, ← u, z)

    pub pass_falls : rise ≡ false → 11 ≡ line_refusal (tabulate n f)
    unfolding line_refusal
    pass_falls z = rw (← end, e, ← u, z)
