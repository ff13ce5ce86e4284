-- `switch_to::records::become_current` meets its contract. Assumes nothing.
use Rattle.switch_to.proofs.Recorded.{current_as}
use Rattle.switch_to.proofs.records.become_current.Goals as goal

pub returns : goal.returns
returns c = current_as c.args.b c.args.q _ _ _ _ c.state_in.ensures c.set_state.ensures c.word.ensures
