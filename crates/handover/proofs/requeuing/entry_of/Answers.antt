-- `handover::requeuing::entry_of` meets its contract. Assumes nothing.
use mathlib.Core.Path.{◌∙◌}
use Rattle.handover.proofs.Requeued.{entry_as}
use Rattle.handover.proofs.requeuing.entry_of.Goals as goal

pub returns : goal.returns
returns c = c.entry.ensures ∙ entry_as c.args.q _ _ _ c.weight_of-weight.ensures.0 c.word-name.ensures
