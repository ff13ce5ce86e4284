use Rattle.image_ranges.proofs.Checked.{counts}
use Rattle.image_ranges.specs.Ranges.{block_most_to}
use Rattle.columns.proofs.Tests.{clash}
use mathlib.Core.Path.{sym, ◌∙◌}
use Rattle.image_ranges.proofs.ranges.block_in_range.Goals as goal
use Rattle.image_ranges.proofs.ranges.block_in_range.Goals.{then-within, else-within}

pub columns_in_range-requires-clause-counts : goal.columns_in_range-requires-clause-counts
unfolding block_most_to
columns_in_range-requires-clause-counts c =
    elim c.if-within.branch [
      | then-within w ↦ counts c.args.n c.args.b.now (sym c.within.ensures ∙ w.if-within.true)
      | else-within w ↦ clash c.if-b-le-MAX_REMAINDER.true (w.value-is ∙ w.if-within.false)
    ]
