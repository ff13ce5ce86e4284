use Rattle.context.specs.Words.{context_words}
use Rattle.context.proofs.record.store_context.Goals as goal

pub returns : goal.returns
unfolding context_words
returns c = rw (← c.into.ensures) c.copy_from_slice.ensures.after
