use Rattle.model.specs.State.{state_of}
use Rattle.steal.proofs.Searching.{load_idle, load_busy}
use native.Mathlib.Omega.{arith}
use Rattle.steal.proofs.search.my_load.Goals as goal

pub returns-then-b : goal.returns-then-b
returns-then-b c = (omega (arith, c.queue_len-len.ensures.1), λ M e o. load_idle (state_of _ M) _ _ (c.load_block-b.ensures M e o) (c.queue_len-len.ensures.2 M e o) c.if-b.true)

pub returns : goal.returns
returns c = (omega (arith, c.queue_len-len.ensures.1), λ M e o. load_busy (state_of _ M) _ _ (c.load_block-b.ensures M e o) (c.queue_len-len.ensures.2 M e o) c.if-b.false)
