use Rattle.plain_candidates.proofs.Gathered.{can_steal}
use Rattle.plain_candidates.proofs.victim.can_steal_from.Goals as goal

pub returns-then-b : goal.returns-then-b
returns-then-b c = can_steal c.args.n c.args.s c.requires.0 c.args.v c.requires.1 c.my_load-load.ensures.0 c.index-published.ensures c.has_enough.ensures (rw c.if-b.true)
