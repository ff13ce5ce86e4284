-- `turn::counting::counted` meets its contract. Assumes nothing.
use Rattle.turn.proofs.counting.counted.Goals as goal

pub returns : goal.returns
returns c = rw c.add_context_switch.ensures
