use Rattle.cpu_stats.specs.Words.{stats_of}
use Rattle.percpu.proofs.load_stats.Goals as goal

pub returns : goal.returns
unfolding stats_of
returns c = rw c.into.ensures
