use Rattle.plain_wakeup.proofs.Bounded.{drained_ready, all_served, served_fits}
use Rattle.plain_wakeup.proofs.serve_wakeups.Goals as goal

pub serve_timers-woken-requires : goal.serve_timers-woken-requires
serve_timers-woken-requires c = record { sound = (c.requires.sound.0, c.drained-drained.ensures.sound, c.requires.sound.2); state_fits = (c.requires.state_fits.0, λ z. drained_ready c.args.time c.args.s c.drained-drained.ensures c.requires.state_fits.0 c.requires.state_fits.1) }

pub returns : goal.returns
returns c = record { tracks = all_served c.args.time c.args.s c.drained-drained.ensures c.serve_timers-woken.ensures c.serve_names.ensures; state_fits_2 = served_fits c.args.time c.args.s c.drained-drained.ensures c.serve_timers-woken.ensures c.serve_names.ensures }
