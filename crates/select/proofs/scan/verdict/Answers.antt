use mathlib.Core.Path.{sym, ◌∙◌}
use Rattle.select.proofs.Visiting.{visit_late, visit_gone, visit_held, visit_live}
use Rattle.machine.proofs.Looked.{gone_at, live_at, live_below, live_gone, live_record}
use Rattle.select.proofs.scan.verdict.Goals as goal

pub returns-then-too_late : goal.returns-then-too_late
returns-then-too_late c = λ M e o. visit_late _ _ _ _ _ _ (sym c.too_late.ensures ∙ c.if-too_late.true)

pub returns-in_default : goal.returns-in_default
returns-in_default c = λ M e o. visit_gone _ _ _ _ _ _ (sym c.too_late.ensures ∙ c.if-too_late.false) (gone_at c.requires.image _ c.requires.cpu_id_bound.1 c.look_up.ensures c.in_default.is M e o)

pub returns-then-is_of : goal.returns-then-is_of
returns-then-is_of c = λ M e o. visit_held _ _ _ _ _ _ (sym c.too_late.ensures ∙ c.if-too_late.false) (sym c.is_of.ensures ∙ c.if-is_of.true) (live_at c.requires.image _ c.requires.cpu_id_bound.1 c.look_up.ensures c.in-Some.is M e o).alive

pub load-q-requires : goal.load-q-requires
load-q-requires c = record { image = c.requires.image; x_lt_n = live_below c.requires.image _ c.requires.cpu_id_bound.1 c.look_up.ensures c.in-Some.is }

pub judged-requires : goal.judged-requires
judged-requires c = record { cpu_id_bound = c.requires.cpu_id_bound.0; gone_value = live_gone c.requires.image _ c.requires.cpu_id_bound.1 c.look_up.ensures c.in-Some.is c.load-q.ensures }

pub returns : goal.returns
returns c = λ M e o. c.judged.ensures ∙ visit_live _ _ _ _ _ _ (sym c.too_late.ensures ∙ c.if-too_late.false) (sym c.is_of.ensures ∙ c.if-is_of.false) (live_record c.requires.image _ c.requires.cpu_id_bound.1 c.look_up.ensures c.in-Some.is c.load-q.ensures M e o)
