-- `turn::timing::timed` meets its contract. Assumes nothing.
use Rattle.turn.proofs.timing.timed.Goals as goal

pub returns : goal.returns
returns c = rw c.add_time.ensures
