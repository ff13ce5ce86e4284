use Rattle.columns.proofs.Tests.{never}
use Rattle.stages.proofs.Blocks.{local_full, local_room}
use Rattle.stages.proofs.block.push_local.Goals as goal

pub returns-then-b-ge64 : goal.returns-then-b-ge64
returns-then-b-ge64 c = λ p e. (local_full _ p e c.if-b-ge64.true, λ f. never f)

pub returns : goal.returns
returns c = λ p e. (local_room _ p e c.if-b-ge64.false, λ f. c.push.ensures.b_after p e)
