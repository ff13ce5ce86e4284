use Rattle.growth.proofs.Coded.{capped_is}
use Rattle.growth.proofs.capped.Goals as goal

pub returns : goal.returns
returns c = capped_is _ c.min.ensures
