use Rattle.context_ops.proofs.Resolved.{present_below}
use Rattle.apart.proofs.Words.{absent_answer, other_absent, both_present}
use mathlib.Core.Path.{◌∙◌}
use Rattle.apart.proofs.answer.Goals as goal

-- src/lib.rt:119:9
pub returns-in_default : goal.returns-in_default
returns-in_default c = λ M e o. absent_answer M _ _ _ (c.get_percpu_block.ensures M e o) _ c.in_default.is c.refused.ensures

-- src/lib.rt:123:9
pub returns-in_default-get_percpu_block : goal.returns-in_default-get_percpu_block
returns-in_default-get_percpu_block c = λ M e o. other_absent M _ _ _ (c.get_percpu_block.ensures M e o) _ (c.get_percpu_block-2.ensures M e o) _ c.in-Some.is _ c.in_default-get_percpu_block.is c.refused-in_default-get_percpu_block.ensures

-- src/lib.rt:125:9
pub are_apart-requires : goal.are_apart-requires
are_apart-requires c = record { image = c.requires; one_lt_c = present_below c.requires _ _ _ c.get_percpu_block.ensures c.in-Some.is; other_lt_c = present_below c.requires _ _ _ c.get_percpu_block-2.ensures c.in-Some-get_percpu_block.is }

-- src/lib.rt:113:1
pub returns : goal.returns
returns c = λ M e o. c.accepted.ensures ∙ both_present M _ _ _ (c.get_percpu_block.ensures M e o) _ (c.get_percpu_block-2.ensures M e o) _ c.in-Some.is _ _ c.in-Some-get_percpu_block.is (c.are_apart.ensures M e o)
