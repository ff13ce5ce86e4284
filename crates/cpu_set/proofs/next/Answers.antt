-- `cpu_set::next` meets its contract. Assumes nothing.
use native.Mathlib.Omega.{arith}
use Rattle.cpu_set.proofs.Members.{lowest}
use Rattle.cpu_set.specs.Members.{next_cpu}
use Rattle.cpu_set.proofs.next.Goals as goal

pub returns : goal.returns
unfolding next_cpu
returns c = (c.from.ensures, rw c.from.ensures (lowest 64 c.args.mask c.requires (omega arith)).1)
