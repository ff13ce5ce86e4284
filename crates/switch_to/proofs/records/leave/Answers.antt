-- `switch_to::records::leave` meets its contract. Assumes nothing.
use Rattle.switch_to.proofs.Recorded.{left_idle, left_other}
use Rattle.switch_to.proofs.records.leave.Goals as goal

pub returns-then-b : goal.returns-then-b
returns-then-b c = left_idle c.args.b c.args.q c.args.time c.if-b.true

pub returns : goal.returns
returns c = left_other c.args.b c.args.q c.args.time _ c.if-b.false c.saturating_sub-elapsed.ensures
