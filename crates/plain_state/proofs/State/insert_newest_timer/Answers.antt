use Rattle.plain_state.proofs.Stating.{beside_flat, newest}
use Rattle.plain_state.proofs.State.insert_newest_timer.Goals as goal

pub with_timers-requires : goal.with_timers-requires
with_timers-requires c = record { sound = c.requires; sized = (c.without_superseded-q.ensures.sized, beside_flat c.args.n c.args.self c.requires c.args.t c.without_superseded-q.ensures) }

pub returns : goal.returns
returns c = newest c.args.n c.args.self c.requires c.args.t c.without_superseded-q.ensures c.with_timers.ensures c.insert_timer.ensures
