use Rattle.context.specs.Words.{context_of}
use Rattle.context.proofs.record.load_context.Goals as goal

pub returns : goal.returns
unfolding context_of
returns c = rw c.into.ensures
