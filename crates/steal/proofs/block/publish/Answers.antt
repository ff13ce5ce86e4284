use Rattle.steal.proofs.Blocks.{published_is}
use Rattle.steal.proofs.block.publish.Goals as goal

pub returns : goal.returns
returns c = λ p e. published_is _ p e
