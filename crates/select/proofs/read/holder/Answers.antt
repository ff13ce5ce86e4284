use Rattle.model.specs.State.{state_of}
use Rattle.select.proofs.Selecting.{holder_at}
use Rattle.select.proofs.read.holder.Goals as goal

pub returns : goal.returns
returns c = λ M e o hb. c.holder_of.ensures (state_of _ M) hb (holder_at _ M hb c.index-x.ensures (c.load-q.ensures M e o))
