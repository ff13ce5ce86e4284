use Rattle.stages.proofs.Blocks.{published}
use Rattle.stages.proofs.block.remove_key.Goals as goal

pub returns : goal.returns
returns c = λ p e l s. published _ _ (c.remove.ensures p e l s).1
