use Rattle.context_ops.proofs.Operated.{fits_at, fits_blocked_as, blocked_reply}
use Rattle.context_ops.proofs.block_live.Goals as goal

pub store_changed-requires : goal.store_changed-requires
store_changed-requires c = record { image = c.requires.image; x_lt_n = c.requires.x_lt_n; context_fits = fits_blocked_as c.args.status c.blocked_as-done.ensures (fits_at c.requires.image _ _ c.requires.x_lt_n c.load-q.ensures) }

pub returns : goal.returns
returns c = λ M e o. blocked_reply _ c.args.status _ M _ _ (c.load-q.ensures M e o) c.blocked_as-done.ensures (c.store_changed.ensures M e o)
