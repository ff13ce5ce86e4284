use Rattle.steal_judge.proofs.Judging.{with_none, with_single, with_pair}
use Rattle.steal_judge.proofs.Candidates.with.Goals as goal

pub returns-in-Nothing : goal.returns-in-Nothing
returns-in-Nothing c = with_none _ c.in-Nothing.is

pub returns-in-Single : goal.returns-in-Single
returns-in-Single c = with_single _ c.in-Single.is

pub returns-in-Pair : goal.returns-in-Pair
returns-in-Pair c = with_pair _ c.in-Pair.is c.requires
