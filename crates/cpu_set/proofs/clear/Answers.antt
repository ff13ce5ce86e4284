-- `cpu_set::clear` meets its contract. Assumes nothing.
use Rattle.cpu_set.proofs.Members.{one_at}
use Rattle.cpu_set.proofs.clear.Goals as goal

pub returns : goal.returns
returns c = rw (one_at c.args.cpu c.requires)
