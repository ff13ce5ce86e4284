use Rattle.plain_state.proofs.Stating.{timer_full, timer_put, still_flat}
use Rattle.plain_state.proofs.State.insert_timer.Goals as goal

pub with_timers-requires : goal.with_timers-requires
with_timers-requires c = record { sound = c.requires; sized = (c.in-Some.ensures.1.sized, still_flat c.args.n c.args.self c.requires c.timer_entry-e.result c.timer_entry-e.ensures.1 c.in-Some.ensures.1) }

pub returns-in-Some : goal.returns-in-Some
returns-in-Some c = timer_put c.args.n c.args.self c.requires c.timer_entry-e.result c.args.t c.timer_entry-e.ensures.0 c.timer_entry-e.ensures.1 c.in-Some.ensures.0 c.in-Some.ensures.1 c.with_timers.ensures

pub returns-in-None : goal.returns-in-None
returns-in-None c = timer_full c.args.n c.args.self c.requires c.timer_entry-e.result c.args.t c.timer_entry-e.ensures.0 c.timer_entry-e.ensures.1 c.in-None.ensures c.without_room.ensures
