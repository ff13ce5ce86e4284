use Rattle.steal.proofs.Blocks.{marked_is}
use Rattle.steal.proofs.block.publish_victim.Goals as goal

pub returns : goal.returns
returns c = λ p e. marked_is _ _ (c.publish.ensures p e) c.some.ensures
