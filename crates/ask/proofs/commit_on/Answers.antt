use Rattle.ask.proofs.Committing.{put_back_commits, same_commits}
use Rattle.ask.proofs.Inside.{attempted_inside}
use Rattle.words.proofs.Copied.{put_back}
use Rattle.machine.proofs.Steps.{sized}
use native.Mathlib.Omega.{arith}
use borrow.Author.Rules.{rules}
use Rattle.ask.proofs.commit_on.Goals as goal

pub copy-requires : goal.copy-requires
copy-requires c = omega (arith, sized c.requires.image)

pub asked_of-requires : goal.asked_of-requires
asked_of-requires c = attempted_inside _ _ _ c.switch-a.ensures c.requires.image (search rules)

pub copy-requires-then-number-ne0 : goal.copy-requires-then-number-ne0
copy-requires-then-number-ne0 c = omega (arith, sized c.requires.image)

pub returns-then-number-ne0 : goal.returns-then-number-ne0
returns-then-number-ne0 c = λ M e o. put_back_commits _ _ _ _ _ _ (c.switch-a.ensures M e o) c.asked_of.ensures c.commit_refusal-number.ensures _ c.if-number-ne0.true c.refused.ensures (put_back _ _ _ c.copy.ensures c.copy-then-number-ne0.ensures (search rules))

pub returns : goal.returns
returns c = λ M e o. same_commits _ _ _ _ _ _ (c.switch-a.ensures M e o) c.asked_of.ensures c.commit_refusal-number.ensures c.if-number-ne0.false
