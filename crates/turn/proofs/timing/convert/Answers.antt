-- `turn::timing::convert` meets its contract. Assumes nothing.
use Rattle.turn.proofs.Counted.{converted_as}
use Rattle.turn.proofs.timing.convert.Goals as goal

pub returns : goal.returns
returns c = converted_as c.args.elapsed c.convert-r.result c.remainder-before.ensures.1 c.convert-r.ensures.0 c.store_remainder.ensures
