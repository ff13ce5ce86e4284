use Rattle.plain_steal.proofs.Round.{done_before, victim_robbed, nobody_robbed, victim_fits}
use Rattle.plain_candidates.specs.Stolen.{locked_of}
use Rattle.plain_steal.proofs.steal_from.Goals as goal

pub returns-then-l : goal.returns-then-l
returns-then-l c = done_before c.args.by.k c.args.theft.runs (locked_of c.args.theft.locked) c.args.by.n c.args.by.c c.args.t c.args.l c.requires.stealing_sound.0 c.if-l.true

pub steal_some-requires : goal.steal_some-requires
steal_some-requires c = record { stealing_sound = (c.requires.stealing_sound.0, c.cpu-v.ensures.sound, c.requires.stealing_sound.1, c.requires.stealing_sound.2); all = (victim_fits c.args.by.k c.args.theft.runs (locked_of c.args.theft.locked) c.args.by.n c.args.by.c c.args.t c.args.l c.requires.stealing_sound.1 c.requires.stealing_sound.0.cpus c.cpu-v.ensures (c.requires.robs c.if-l.false), (c.requires.robs c.if-l.false).below) }

pub returns-then-can_steal_from : goal.returns-then-can_steal_from
returns-then-can_steal_from c = victim_robbed c.args.by.k c.args.theft.runs (locked_of c.args.theft.locked) c.args.by.n c.args.by.c c.args.t c.args.l c.cpu-v.ensures c.can_steal_from.ensures c.if-l.false c.if-can_steal_from.true c.steal_some.ensures

pub returns-else-can_steal_from : goal.returns-else-can_steal_from
returns-else-can_steal_from c = nobody_robbed c.args.by.k c.args.theft.runs (locked_of c.args.theft.locked) c.args.by.n c.args.by.c c.args.t c.args.l c.cpu-v.ensures c.can_steal_from.ensures c.if-l.false c.if-can_steal_from.false c.requires.stealing_sound.0
