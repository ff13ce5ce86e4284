use Rattle.image_ranges.proofs.Checked.{block_lent}
use Rattle.image_ranges.specs.Ranges.{blocks_in_range_to}
use Rattle.columns.proofs.Tests.{every_none, every_next, every_no, every_end}
use mathlib.Core.Path.{sym, ◌∙◌}
use Rattle.image_ranges.proofs.ranges.blocks_in_range.Goals as goal

pub loop-k-init : goal.loop-k-init
loop-k-init c = every_none _

pub returns-then-not-block_in_range : goal.returns-then-not-block_in_range
unfolding blocks_in_range_to
returns-then-not-block_in_range c = sym (every_no _ _ _ c.loop-k-test.true (sym (block_lent _ _ _ _ c.cpu_place-at.ensures c.word-names.ensures c.block_in_range.ensures) ∙ c.if-not-block_in_range.true))

pub loop-k-preserved : goal.loop-k-preserved
loop-k-preserved c = every_next _ _ c.loop-k.invariant (sym (block_lent _ _ _ _ c.cpu_place-at.ensures c.word-names.ensures c.block_in_range.ensures) ∙ c.if-not-block_in_range.false)

pub returns : goal.returns
unfolding blocks_in_range_to
returns c = every_end _ _ _ c.loop-k-test.false c.loop-k.auto.k-end c.loop-k.invariant
