use Rattle.steal.proofs.Blocks.{weight_added}
use Rattle.steal.proofs.block.add_weight.Goals as goal

pub returns : goal.returns
returns c = λ p e. weight_added _ _ p e
