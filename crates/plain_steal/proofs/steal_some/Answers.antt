use Rattle.plain_steal.proofs.Round.{few_wanted, each_wanted}
use Rattle.plain_candidates.specs.Stolen.{locked_of}
use Rattle.plain_steal.proofs.steal_some.Goals as goal

pub steal_entries-requires : goal.steal_entries-requires
steal_entries-requires c = record { stealing_sound = (c.requires.stealing_sound.0, c.requires.stealing_sound.1, c.candidates_sized-es.ensures.sized, few_wanted c.args.by.n c.args.by.c c.args.by.k c.args.t c.args.theft.runs (locked_of c.args.theft.locked) c.args.l c.args.v c.want.ensures.0 c.candidates_sized-es.ensures c.want.ensures.1, c.requires.stealing_sound.2); all = (each_wanted c.args.by.n c.args.by.c c.args.by.k c.args.t c.args.theft.runs (locked_of c.args.theft.locked) c.args.l c.args.v c.want.ensures.0 c.candidates_sized-es.ensures c.requires.all.0, c.requires.all.1) }
