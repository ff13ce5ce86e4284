use Rattle.model.proofs.Cases.{never}
use Rattle.plain_schedule.proofs.Scheduling.{no_turn, no_slice, scheduled}
use Rattle.plain_schedule.proofs.schedule.Goals as goal

pub returns-then-turned : goal.returns-then-turned
returns-then-turned c = record { next_tracks = no_turn c.args.by.n c.args.by.c c.args.by.k c.args.by.time c.args.s c.args.cpus c.requires.cpus_sound.0 c.before_choice-turned.ensures c.if-turned.true; next_fits = λ z. never c.if-turned.true z }

pub returns-then-next : goal.returns-then-next
returns-then-next c = record { next_tracks = no_slice c.args.by.n c.args.by.c c.args.by.k c.args.by.time c.args.s c.args.cpus c.requires.cpus_sound.0 c.before_choice-turned.ensures c.if-turned.false c.selected-next.ensures.next_tracks c.if-next.true; next_fits = λ z. never c.if-next.true z }

pub returns : goal.returns
returns c = record { next_tracks = scheduled c.args.by.n c.args.by.c c.args.by.k c.args.by.time c.args.s c.args.cpus c.requires.cpus_sound.0 c.before_choice-turned.ensures c.if-turned.false c.selected-next.ensures.next_tracks c.if-next.false c.hand_over.ensures.next_tracks; next_fits = λ z. c.hand_over.ensures.next_fits_2 }
