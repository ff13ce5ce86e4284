use Rattle.rounds.proofs.Playing.{plays_go_on, plays_yield, plays_block, refused_block}
use Rattle.rounds.proofs.play.Goals as goal

-- src/lib.rt:78:17
pub returns-then-asleep : goal.returns-then-asleep
returns-then-asleep c = rw c.in-Block.is (plays_block _ _ _ _ _ _ _ _ c.asleep.ensures c.if-asleep.true c.switched-then-asleep.ensures)

-- src/lib.rt:69:1
pub returns-in-GoOn : goal.returns-in-GoOn
returns-in-GoOn c = rw c.in-GoOn.is (plays_go_on _ _ _ _ _ _ c.switched.ensures)

-- src/lib.rt:69:1
pub returns-in-Yield : goal.returns-in-Yield
returns-in-Yield c = rw c.in-Yield.is (plays_yield _ _ _ _ _ _ c.switched-in-Yield.ensures)

-- src/lib.rt:69:1
pub returns-else-asleep : goal.returns-else-asleep
returns-else-asleep c = rw (c.in-Block.is, c.if-asleep.false) (refused_block _ _ _ _ _ _ c.asleep.ensures c.if-asleep.false)
