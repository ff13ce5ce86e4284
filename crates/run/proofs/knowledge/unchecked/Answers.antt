use Rattle.run.proofs.Knowing.{late_makes}
use Rattle.run.proofs.knowledge.unchecked.Goals as goal

pub returns-then-q-gt-MAX_NUMBER : goal.returns-then-q-gt-MAX_NUMBER
returns-then-q-gt-MAX_NUMBER c = late_makes _ _ _ c.requires c.if-q-gt-MAX_NUMBER.true c.refused.ensures
