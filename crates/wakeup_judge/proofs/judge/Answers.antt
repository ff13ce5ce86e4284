use Rattle.wakeup_judge.proofs.Judging.{judged_locked, judged_entered, judged_woken}
use Rattle.wakeup_judge.proofs.judge.Goals as goal

pub returns-then-c-ne0 : goal.returns-then-c-ne0
returns-then-c-ne0 c = judged_locked _ _ _ _ c.requires.1 c.requires.0 c.if-c-ne0.true

pub returns-then-may_enter : goal.returns-then-may_enter
returns-then-may_enter c = judged_entered _ _ _ _ c.requires.1 _ _ c.woken_by-q.ensures c.may_enter.ensures c.requires.0 c.if-c-ne0.false c.if-may_enter.true

pub returns : goal.returns
returns c = judged_woken _ _ _ _ c.requires.1 _ _ c.woken_by-q.ensures c.may_enter.ensures c.requires.0 c.if-c-ne0.false c.if-may_enter.false
