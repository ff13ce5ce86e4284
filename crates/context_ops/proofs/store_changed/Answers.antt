use Rattle.context_ops.proofs.Operated.{stored_reply}
use Rattle.context_ops.proofs.store_changed.Goals as goal

pub returns : goal.returns
returns c = λ M e o. stored_reply _ _ _ (c.store.ensures.step M e o).0
