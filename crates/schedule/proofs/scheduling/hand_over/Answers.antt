-- `schedule::scheduling::hand_over` meets its contract. Assumes nothing.
use Rattle.schedule.proofs.Scheduled.{handed_nobody, handed_to, handed_ranged, kept_ranged}
use Rattle.schedule.proofs.scheduling.hand_over.Goals as goal

pub returns-in-None : goal.returns-in-None
returns-in-None c = record { staged = handed_nobody c.args.time c.args.was_idle c.in-None.is c.requires.image; ranged_2 = kept_ranged c.requires.ranged }

pub hand_over-requires : goal.hand_over-requires
hand_over-requires c = record { image = c.requires.image; bounded = (c.requires.bounded.1 _ c.in-Some.is, c.requires.bounded.0); ranged = c.requires.ranged }

pub returns-in-Some : goal.returns-in-Some
returns-in-Some c = record { staged = handed_to c.args.time c.args.was_idle _ c.in-Some.is c.hand_over.ensures; ranged_2 = handed_ranged c.args.time c.args.was_idle _ c.args.cpu.present (c.requires.bounded.1 _ c.in-Some.is) c.requires.bounded.0 c.hand_over.ensures c.requires.ranged }
