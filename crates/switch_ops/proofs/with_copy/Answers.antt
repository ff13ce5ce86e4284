use Rattle.machine.proofs.Steps.{sized}
use Rattle.words.proofs.Copied.{put_back}
use Rattle.switch_ops.proofs.Answered.{kept_replies}
use native.Mathlib.Omega.{arith}
use borrow.Author.Rules.{rules}
use Rattle.switch_ops.proofs.with_copy.Goals as goal

pub copy-requires : goal.copy-requires
copy-requires c = omega (arith, sized c.requires.image)

pub copy-requires-then-a-ne0 : goal.copy-requires-then-a-ne0
copy-requires-then-a-ne0 c = omega (arith, sized c.requires.image)

pub returns-then-a-ne0 : goal.returns-then-a-ne0
returns-then-a-ne0 c = λ M e o. kept_replies _ _ (c.attempt-a.ensures M e o) c.if-a-ne0.true (put_back _ _ _ c.copy.ensures c.copy-then-a-ne0.ensures (search rules))

pub returns-else-a-ne0 : goal.returns-else-a-ne0
returns-else-a-ne0 c = λ M e o. (c.attempt-a.ensures M e o).replies c.if-a-ne0.false
