use Rattle.plain_steal.proofs.Robbed.{nothing_stolen, some_robbed}
use Rattle.plain_steal.proofs.steal_entries.Goals as goal

pub returns-then-es-eq0 : goal.returns-then-es-eq0
returns-then-es-eq0 c = nothing_stolen c.args.by.n c.args.by.c c.args.t c.args.runs c.args.l c.args.v c.args.es c.requires.stealing_sound.0 c.requires.stealing_sound.2 c.if-es-eq0.true

pub returns : goal.returns
returns c = some_robbed c.args.by.n c.args.by.c c.args.t c.args.runs c.args.l c.args.v c.args.es {m = c.move_entries-m.result} c.requires.stealing_sound.2 c.if-es-eq0.false c.move_entries-m.ensures c.publish.ensures c.publish_victim.ensures c.put.ensures
