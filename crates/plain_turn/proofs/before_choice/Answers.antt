use Rattle.plain_turn.proofs.Ending.{turned}
use Rattle.plain_turn.proofs.before_choice.Goals as goal

pub returns : goal.returns
returns c = turned c.args.time c.args.s c.before_selection-timed.ensures.tracks c.before_selection-timed.ensures.timed c.turn_spent-spent.result c.saturating_sub-elapsed.ensures c.turn_spent-spent.ensures.0 c.turn_spent-spent.ensures.1 c.turn_spent-spent.ensures.2 c.charge_holder.ensures c.is_idle.ensures
