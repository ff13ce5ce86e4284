use Rattle.plain_select.proofs.Choosing.{chooses, winner_fits}
use Rattle.plain_select.proofs.choose.Goals as goal

pub returns : goal.returns
returns c = record { result_value = chooses c.args.n c.args.f c.args.h c.requires.0 c.record-q.result c.choose.result c.choose.ensures c.best_context.ensures c.record-q.ensures; winner_below = winner_fits c.args.n c.args.f c.args.h c.requires.0 c.record-q.result c.choose.result c.choose.ensures }
