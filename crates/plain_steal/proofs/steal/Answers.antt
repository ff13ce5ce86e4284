use Rattle.plain_steal.proofs.Stolen.{start_sound, start_robs, start_room, stolen_all, not_stolen}
use Rattle.plain_candidates.specs.Stolen.{locked_of}
use Rattle.std.proofs.Common.{refl}
use Rattle.plain_steal.proofs.steal.Goals as goal

pub steal_round-requires : goal.steal_round-requires
steal_round-requires c = record { stealing_sound = (start_sound c.args.by.k c.args.theft.runs (locked_of c.args.theft.locked) c.args.by.n c.args.by.c c.args.s c.args.cpus c.args.winner c.requires.cpus_sound.0 c.count_steal.ensures, c.requires.cpus_sound.2, start_room c.args.by.k c.args.theft.runs (locked_of c.args.theft.locked) c.args.by.n c.args.by.c c.args.s c.args.cpus c.args.winner c.requires.cpus_sound.0 c.count_steal.ensures c.requires.sound.2, start_robs c.args.by.k c.args.theft.runs (locked_of c.args.theft.locked) c.args.by.n c.args.by.c c.args.s c.args.cpus c.args.winner c.requires.cpus_sound.0 c.count_steal.ensures c.requires.sound.1 c.requires.cpus_sound.1 c.requires.state_below); done_value = refl }

pub returns-then-should_steal : goal.returns-then-should_steal
returns-then-should_steal c = stolen_all c.args.by.k c.args.theft.runs (locked_of c.args.theft.locked) c.args.by.n c.args.by.c c.args.s c.args.cpus c.args.winner c.requires.cpus_sound.0 c.count_steal.ensures c.should_steal.ensures c.if-should_steal.true c.steal_round.ensures

pub returns-else-should_steal : goal.returns-else-should_steal
returns-else-should_steal c = not_stolen c.args.by.k c.args.theft.runs (locked_of c.args.theft.locked) c.args.by.n c.args.by.c c.args.s c.args.cpus c.args.winner c.requires.cpus_sound.0 c.count_steal.ensures c.should_steal.ensures c.if-should_steal.false
