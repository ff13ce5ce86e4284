use Rattle.plain_schedule.proofs.Scheduling.{kept, kept_fits, given, given_fits}
use Rattle.plain_schedule.proofs.hand_over.Goals as goal

pub returns-in-None : goal.returns-in-None
returns-in-None c = record { next_tracks = kept c.args.by.time c.args.was_idle c.args.next c.requires.sound.0 c.requires.sound.1 c.requires.next_fits c.in-None.is; next_fits_2 = kept_fits c.args.by.time c.args.was_idle c.args.next c.requires.sound.0 c.requires.sound.1 c.requires.next_fits }

pub returns-in-Some : goal.returns-in-Some
returns-in-Some c = record { next_tracks = given c.args.by.time c.args.was_idle c.args.next c.requires.sound.0 c.requires.sound.1 c.requires.next_fits c.in-Some.is c.hand_over.ensures; next_fits_2 = given_fits c.args.by.time c.args.was_idle c.args.next c.requires.sound.0 c.requires.sound.1 c.requires.next_fits c.in-Some.is c.hand_over.ensures c.requires.sound.2 }
