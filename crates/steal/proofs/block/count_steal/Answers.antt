use Rattle.steal.proofs.Blocks.{counted_is}
use Rattle.steal.proofs.block.count_steal.Goals as goal

pub returns : goal.returns
returns c = λ p e. counted_is _ p e c.next_counter.ensures
