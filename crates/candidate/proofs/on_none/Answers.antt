use Rattle.candidate.proofs.Apart.{one_on, one_off, all_off}
use Rattle.columns.proofs.Tests.{every_none}
use Rattle.candidate.proofs.on_none.Goals as goal

-- src/lib.rt:55:5
pub loop-k-init : goal.loop-k-init
loop-k-init c = λ M e o. every_none _

-- src/lib.rt:57:13
pub returns-then-not-not_on : goal.returns-then-not-not_on
returns-then-not-not_on c = λ M e o. one_on _ M o _ c.loop-k-test.true _ (c.not_on.ensures M e o) c.if-not-not_on.true

-- src/lib.rt:55:5
pub loop-k-preserved : goal.loop-k-preserved
loop-k-preserved c = λ M e o. one_off _ M o _ _ (c.not_on.ensures M e o) c.if-not-not_on.false (c.loop-k.invariant M e o)

-- src/lib.rt:50:1
pub returns : goal.returns
returns c = λ M e o. all_off _ M o _ c.loop-k-test.false c.loop-k.auto.k-end (c.loop-k.invariant M e o)
