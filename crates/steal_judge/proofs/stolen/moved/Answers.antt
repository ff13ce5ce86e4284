use Rattle.std.proofs.Common.{◌∙◌, div-le_self, arith}
use Rattle.steal_judge.proofs.stolen.moved.Goals as goal

pub overflow_add-q : goal.overflow_add-q
overflow_add-q c = omega (arith, div-le_self c.args.q.rem_slice c.args.weight)

pub returns : goal.returns
returns c = c.without_key.ensures ∙ rw c.saturating_sub-vtime.ensures
