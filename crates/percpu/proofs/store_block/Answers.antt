use Rattle.percpu.specs.Words.{block_words}
use Rattle.cpu_stats.specs.Words.{stats_words}
use Rattle.percpu.proofs.store_block.Goals as goal

pub returns : goal.returns
unfolding block_words stats_words
returns c = rw (← c.into.ensures) c.copy_from_slice.ensures.after
