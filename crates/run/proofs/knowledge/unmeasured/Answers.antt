use Rattle.run.proofs.Knowing.{unmeasured_makes}
use Rattle.run.proofs.knowledge.unmeasured.Goals as goal

-- src/knowledge.rt:105:1
pub returns : goal.returns
returns c = unmeasured_makes _ _ _ _ _ c.call-answer.ensures
