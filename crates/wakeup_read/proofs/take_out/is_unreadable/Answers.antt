use mathlib.Core.Path.{ap, ◌∙◌}
use Rattle.machine.specs.Machine.{context_at}
use Rattle.machine.proofs.Looked.{gone_at, live_below, live_gone, live_record}
use Rattle.wakeup_judge.specs.Judge.{unreadable_at}
use Rattle.wakeup_judge.proofs.Judging.{readable_gone}
use Rattle.wakeup_read.proofs.take_out.is_unreadable.Goals as goal

pub returns-in_default : goal.returns-in_default
returns-in_default c = λ M e o. readable_gone c.args.sched c.args.t (context_at M.contexts c.args.t.context_ref) (gone_at c.requires.image _ c.requires.context_ref_bound c.look_up.ensures c.in_default.is M e o)

pub load-q-requires : goal.load-q-requires
load-q-requires c = record { image = c.requires.image; x_lt_n = live_below c.requires.image _ c.requires.context_ref_bound c.look_up.ensures c.in-Some.is }

pub is_unreadable-requires : goal.is_unreadable-requires
is_unreadable-requires c = live_gone c.requires.image _ c.requires.context_ref_bound c.look_up.ensures c.in-Some.is c.load-q.ensures

pub returns : goal.returns
returns c = λ M e o. c.is_unreadable.ensures ∙ ap (unreadable_at c.args.sched c.args.t) (live_record c.requires.image _ c.requires.context_ref_bound c.look_up.ensures c.in-Some.is c.load-q.ensures M e o)
