use Rattle.asked.proofs.Told.{told_refused, told_accepted}
use Rattle.asked.proofs.asked_of.Goals as goal

pub returns-then-a-ne0 : goal.returns-then-a-ne0
returns-then-a-ne0 c = told_refused _ _ _ _ c.if-a-ne0.true c.refused.ensures

pub accepted-requires : goal.accepted-requires
accepted-requires c = rw c.index.ensures (c.requires c.if-a-ne0.false)

pub returns : goal.returns
returns c = told_accepted _ _ _ _ _ c.if-a-ne0.false c.index.ensures c.accepted.ensures
