use Rattle.run.proofs.Knowing.{known_makes, over_makes}
use mathlib.Core.Path.{sym, ◌∙◌}
use Rattle.growth.proofs.Knowing.{known_image, known_ranged}
use Rattle.run.proofs.knowledge.on_known.Goals as goal

-- src/knowledge.rt:47:9
pub call_bounds-after-requires : goal.call_bounds-after-requires
call_bounds-after-requires c = record { image = known_image c.requires.known; in_range = c.requires.known.in_range; time_le_max_number = c.requires.time_le_max_number }

-- src/knowledge.rt:49:9
pub on_image-answer-requires : goal.on_image-answer-requires
on_image-answer-requires c = record { image = known_image c.requires.known; time_le_max_number = c.requires.time_le_max_number; ranged = known_ranged c.requires.known }

pub returns-then-is_in_range : goal.returns-then-is_in_range
returns-then-is_in_range c = known_makes _ _ c.requires.known c.requires.time_le_max_number c.on_image-answer.ensures _ c.call_bounds-after.ensures (sym c.is_in_range.ensures ∙ c.if-is_in_range.true)

pub returns : goal.returns
returns c = over_makes _ _ c.requires.known c.requires.time_le_max_number c.on_image-answer.ensures _
