use Rattle.model.specs.State.{state_of}
use Rattle.steal.proofs.Stolen.{due_is}
use Rattle.steal.proofs.should_steal.Goals as goal

pub returns : goal.returns
returns c = λ M e o. due_is (state_of _ M) c.args.w c.load_block-b.result (c.load_block-b.ensures M e o) c.is_some.ensures c.should_steal.ensures
