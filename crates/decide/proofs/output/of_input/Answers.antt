use mathlib.Core.Path.{◌∙◌}
use Rattle.decide.proofs.Shown.{short, torn, whole, first_words}
use native.Mathlib.Omega.{arith}
use Rattle.decide.proofs.output.of_input.Goals.{then-len-lt32-via-then-len-lt32, then-len-lt32-via-else-len-lt32+then-len-over-ne0}
use Rattle.decide.proofs.output.of_input.Goals as goal

pub returns-then-len-lt32 : goal.returns-then-len-lt32
returns-then-len-lt32 c =
    elim c.then-len-lt32.branch [
      | then-len-lt32-via-then-len-lt32 w ↦ short _ _ w.if-len-lt32.true (rw c.into.ensures at c.refused.ensures)
      | then-len-lt32-via-else-len-lt32+then-len-over-ne0 w ↦ torn _ _ w.if-len-lt32.false w.if-len-over-ne0.true (rw c.into.ensures at c.refused.ensures)
    ]

pub returns : goal.returns
returns c = whole _ _ _ c.if-len-lt32.false c.if-len-over-ne0.false (first_words _ _ (omega arith) ∙ c.min-n.ensures) c.of_words.ensures
