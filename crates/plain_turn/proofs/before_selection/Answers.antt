use Rattle.plain_turn.proofs.Begun.{can_time, selects, has_timed}
use Rattle.plain_turn.proofs.before_selection.Goals as goal

pub times-requires : goal.times-requires
times-requires c = record { sound = (c.serve_wakeups-woken.ensures.tracks.sound, c.requires.sound.2); can_time = can_time c.args.s c.requires.can_begin c.count_switch.ensures c.serve_wakeups-woken.ensures.tracks c.serve_wakeups-woken.ensures.state_fits_2 }

pub returns : goal.returns
returns c = record { tracks = selects c.args.s c.requires.can_begin c.count_switch.ensures c.serve_wakeups-woken.ensures.tracks c.serve_wakeups-woken.ensures.state_fits_2 c.times.ensures; timed = has_timed c.args.s c.requires.can_begin c.count_switch.ensures c.serve_wakeups-woken.ensures.tracks c.serve_wakeups-woken.ensures.state_fits_2 c.times.ensures c.requires.sound.2 }
