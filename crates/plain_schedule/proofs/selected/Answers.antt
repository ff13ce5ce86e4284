use Rattle.model.proofs.Cases.{never}
use Rattle.plain_schedule.proofs.Scheduling.{not_settled, settled_next, settled_next_fits}
use Rattle.plain_schedule.proofs.selected.Goals as goal

pub returns-then-moved : goal.returns-then-moved
returns-then-moved c = record { next_tracks = not_settled c.args.by.n c.args.by.c c.args.by.k c.args.by.time c.args.s c.args.cpus c.args.spent c.prev_runnable-runs.ensures c.choose_and_steal-moved.ensures.next_tracks c.if-moved.true; next_fits = λ z. never c.if-moved.true z }

pub returns : goal.returns
returns c = record { next_tracks = settled_next c.args.by.n c.args.by.c c.args.by.k c.args.by.time c.args.s c.args.cpus c.args.spent c.prev_runnable-runs.ensures c.choose_and_steal-moved.ensures.next_tracks c.choose_and_steal-moved.ensures.next_fits c.if-moved.false c.settle-state.ensures c.next_context.ensures; next_fits = settled_next_fits c.args.by.n c.args.by.c c.args.by.k c.args.by.time c.args.s c.args.cpus c.args.spent c.prev_runnable-runs.ensures c.choose_and_steal-moved.ensures.next_tracks c.choose_and_steal-moved.ensures.next_fits c.if-moved.false c.settle-state.ensures c.next_context.ensures c.requires.ticks_le_max_ticks }
