use Rattle.stages.proofs.Blocks.{remainder_stored}
use Rattle.stages.proofs.block.store_remainder.Goals as goal

pub returns : goal.returns
returns c = λ p e. remainder_stored _ _ p e
