use Rattle.stages.proofs.Blocks.{loaded}
use Rattle.stages.proofs.block.load.Goals as goal

pub returns : goal.returns
returns c = λ p e. loaded _ _ p c.load_block.ensures e
