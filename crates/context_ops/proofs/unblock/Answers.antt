use Rattle.context_ops.proofs.Operated.{fits_unblocked_as}
use Rattle.context_ops.proofs.Operated.{fits_at, unblock_done, unblock_runnable, unblock_nothing}
use mathlib.Core.Path.{sym, ◌∙◌}
use Rattle.context_ops.proofs.unblock.Goals as goal

pub wakeup_context-requires : goal.wakeup_context-requires
wakeup_context-requires c = record { image = c.requires.image; bounded = c.requires.bounded; context_fits = fits_unblocked_as c.unblock_no_ipi.ensures (fits_at c.requires.image _ _ c.requires.bounded c.load-q.ensures) }

pub returns-then-unblock_no_ipi : goal.returns-then-unblock_no_ipi
returns-then-unblock_no_ipi c = λ M e o. unblock_done _ _ _ M _ (c.load-q.ensures M e o) _ c.unblock_no_ipi.ensures c.if-unblock_no_ipi.true (c.wakeup_context.ensures M e o)

pub wakeup_context-requires-then-is_runnable : goal.wakeup_context-requires-then-is_runnable
wakeup_context-requires-then-is_runnable c = record { image = c.requires.image; bounded = c.requires.bounded; context_fits = fits_at c.requires.image _ _ c.requires.bounded c.load-q.ensures }

pub returns-then-is_runnable : goal.returns-then-is_runnable
returns-then-is_runnable c = λ M e o. unblock_runnable _ _ _ M _ (c.load-q.ensures M e o) _ c.unblock_no_ipi.ensures c.if-unblock_no_ipi.false (sym c.is_runnable.ensures ∙ c.if-is_runnable.true) (c.wakeup_context-then-is_runnable.ensures M e o)

pub returns : goal.returns
returns c = λ M e o. unblock_nothing _ _ _ M _ (c.load-q.ensures M e o) _ c.unblock_no_ipi.ensures c.if-unblock_no_ipi.false (sym c.is_runnable.ensures ∙ c.if-is_runnable.false) e
