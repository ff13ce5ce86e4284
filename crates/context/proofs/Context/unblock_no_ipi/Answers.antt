use mathlib.Core.Path.{sym, ◌∙◌}
use Rattle.context.specs.Block.{unblocked}
use Rattle.context.proofs.Context.unblock_no_ipi.Goals as goal

pub returns-then-blocked : goal.returns-then-blocked
unfolding unblocked
returns-then-blocked c = rw (c.if-blocked.true, sym c.is_soft_blocked-blocked.ensures ∙ c.if-blocked.true)

pub returns-else-blocked : goal.returns-else-blocked
unfolding unblocked
returns-else-blocked c = rw (c.if-blocked.false, sym c.is_soft_blocked-blocked.ensures ∙ c.if-blocked.false)
