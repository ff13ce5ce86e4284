use mathlib.Core.Path.{sym, ◌∙◌}
use Rattle.context.specs.Block.{blocked_as}
use Rattle.context.proofs.Context.blocked_as.Goals as goal

pub returns-then-runs : goal.returns-then-runs
unfolding blocked_as
returns-then-runs c = rw (c.if-runs.true, sym c.is_runnable-runs.ensures ∙ c.if-runs.true)

pub returns-else-runs : goal.returns-else-runs
unfolding blocked_as
returns-else-runs c = rw (c.if-runs.false, sym c.is_runnable-runs.ensures ∙ c.if-runs.false)
