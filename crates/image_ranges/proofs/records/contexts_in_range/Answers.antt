use Rattle.image_ranges.proofs.Checked.{context_lent}
use Rattle.image_ranges.specs.Ranges.{contexts_in_range_to}
use Rattle.columns.proofs.Tests.{every_none, every_next, every_no, every_end}
use mathlib.Core.Path.{sym, ◌∙◌}
use native.Mathlib.Omega.{arith}
use Rattle.image_ranges.proofs.records.contexts_in_range.Goals as goal

pub loop-x-init : goal.loop-x-init
loop-x-init c = (omega arith, omega arith, every_none _)

pub returns-then-not-context_in_range : goal.returns-then-not-context_in_range
unfolding contexts_in_range_to
returns-then-not-context_in_range c = sym (every_no _ _ _ c.loop-x-test.true (sym (context_lent _ _ _ c.context_place-at.ensures c.context_in_range.ensures) ∙ c.if-not-context_in_range.true))

pub loop-x-preserved : goal.loop-x-preserved
loop-x-preserved c = (omega arith, omega arith, every_next _ _ c.loop-x.invariant.2 (sym (context_lent _ _ _ c.context_place-at.ensures c.context_in_range.ensures) ∙ c.if-not-context_in_range.false))

pub returns : goal.returns
unfolding contexts_in_range_to
returns c = every_end _ _ _ c.loop-x-test.false c.loop-x.auto.x-end c.loop-x.invariant.2
