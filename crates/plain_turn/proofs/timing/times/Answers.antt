use Rattle.plain_turn.proofs.Clock.{timed_tracks}
use Rattle.plain_turn.proofs.timing.times.Goals as goal

pub returns : goal.returns
returns c = timed_tracks c.args.n c.args.s c.args.time c.saturating_sub-elapsed.ensures c.timed-after.ensures c.convert-r.ensures.0 c.with_turn.ensures
