use mathlib.Core.Path.{ap, ◌∙◌}
use Rattle.machine.proofs.Looked.{gone_at, live_below, live_gone, live_record}
use Rattle.wakeup_judge.specs.Judge.{judged}
use Rattle.wakeup_judge.proofs.Judging.{judged_sched, judged_gone}
use Rattle.wakeup.proofs.verdict.Goals as goal

pub returns-then-w-b : goal.returns-then-w-b
returns-then-w-b c = λ M e o. judged_sched _ _ _ _ c.if-w-b.true

pub returns-in_default : goal.returns-in_default
returns-in_default c = λ M e o. judged_gone _ _ _ _ c.if-w-b.false (gone_at c.requires.image _ c.requires.context_ref_bound c.look_up.ensures c.in_default.is M e o)

pub load-q-requires : goal.load-q-requires
load-q-requires c = record { image = c.requires.image; x_lt_n = live_below c.requires.image _ c.requires.context_ref_bound c.look_up.ensures c.in-Some.is }

pub judge-requires : goal.judge-requires
judge-requires c = (live_gone c.requires.image _ c.requires.context_ref_bound c.look_up.ensures c.in-Some.is c.load-q.ensures, c.if-w-b.false)

pub returns : goal.returns
returns c = λ M e o. c.judge.ensures ∙ ap (judged _ _ _) (live_record c.requires.image _ c.requires.context_ref_bound c.look_up.ensures c.in-Some.is c.load-q.ensures M e o)
