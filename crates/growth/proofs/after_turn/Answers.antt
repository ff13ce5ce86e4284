use Rattle.growth.proofs.Tested.{turned}
use Rattle.growth.proofs.after_turn.Goals as goal

-- src/lib.rt:35:1
pub returns : goal.returns
returns c = turned _ _ _ _ _ c.after_theft-charged.ensures.0
