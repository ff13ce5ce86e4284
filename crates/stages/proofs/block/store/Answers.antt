use Rattle.stages.proofs.Blocks.{stored}
use Rattle.stages.proofs.block.store.Goals as goal

pub returns : goal.returns
returns c = λ p e. stored _ _ _ p c.store_block.ensures e
