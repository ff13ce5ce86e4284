-- `cpu_set::count` meets its contract. Assumes nothing.
use mathlib.Core.Path.{◌∙◌}
use native.Mathlib.Omega.{arith}
use Rattle.cpu_set.proofs.Members.{members_count}
use Rattle.cpu_set.proofs.count.Goals as goal

pub returns : goal.returns
returns c = c.from.ensures ∙ members_count c.args.mask (omega arith)
