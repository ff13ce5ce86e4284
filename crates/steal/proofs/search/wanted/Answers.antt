use Rattle.model.specs.State.{state_of}
use Rattle.steal.proofs.Searching.{want_is}
use Rattle.steal.proofs.search.wanted.Goals as goal

pub returns : goal.returns
returns c = (c.want.ensures.1, c.want.ensures.2, λ M e o. want_is (state_of _ M) _ (c.queue_len-here.ensures.2 M e o) (c.queue_len-there.ensures.2 M e o) c.want.ensures.0)
