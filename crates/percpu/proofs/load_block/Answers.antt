use Rattle.percpu.specs.Words.{block_of}
use Rattle.columns.specs.Blocks.{part}
use Rattle.percpu.proofs.load_block.Goals as goal

pub returns : goal.returns
unfolding block_of part
returns c = rw c.load_stats.ensures
