-- `switch_to::records::come` meets its contract. Assumes nothing.
use Rattle.switch_to.proofs.Recorded.{comes_as}
use Rattle.switch_to.proofs.records.come.Goals as goal

pub returns : goal.returns
returns c = comes_as _ c.args.time c.args.q _ c.word.ensures
