use Rattle.plain_schedule.proofs.Choosing.{steal_asks, moved, moved_fits}
use Rattle.plain_schedule.proofs.choose_and_steal.Goals as goal

pub steal-moved-requires : goal.steal-moved-requires
steal-moved-requires c = steal_asks c.args.by.n c.args.by.c c.args.by.k c.args.by.time c.args.s c.args.cpus c.requires.can_choose c.select-selected.result.choice c.select-selected.ensures.choice_value c.select-selected.ensures.became c.select-selected.ensures.winner_below

pub returns : goal.returns
returns c = record { next_tracks = moved c.args.by.n c.args.by.c c.args.by.k c.args.by.time c.args.s c.args.cpus c.requires.can_choose c.select-selected.result.choice c.select-selected.ensures.choice_value c.select-selected.ensures.became c.select-selected.ensures.winner_below c.requires.runs_value c.index.ensures c.steal-moved.ensures c.is_some.ensures c.rule_after.ensures; next_fits = moved_fits c.args.by.n c.args.by.c c.args.by.k c.args.by.time c.args.s c.args.cpus c.requires.can_choose c.select-selected.result.choice c.select-selected.ensures.choice_value c.select-selected.ensures.became c.select-selected.ensures.winner_below c.requires.runs_value c.index.ensures c.steal-moved.ensures }
