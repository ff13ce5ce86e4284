use Rattle.run.proofs.Knowing.{passed_sizes, passed_time, passed_image, passed_ranged, passed_known, passed_makes}
use mathlib.Core.Path.{sym, refl, ◌∙◌}
use Rattle.run.proofs.knowledge.measured.Goals as goal

-- src/knowledge.rt:66:9
pub measure-b-requires : goal.measure-b-requires
measure-b-requires c = passed_sizes _ _ _ _ c.requires.0 c.requires.1 c.requires.2

-- src/knowledge.rt:68:9
pub on_known-requires : goal.on_known-requires
on_known-requires c = record { known = passed_known _ _ _ _ c.requires.0 c.requires.1 c.requires.2 _ c.measure-b.ensures (sym c.is_in_range.ensures ∙ c.if-is_in_range.true); time_le_max_number = passed_time _ _ _ _ c.requires.0 c.requires.1 c.requires.2 }

-- src/knowledge.rt:68:9
pub returns-then-is_in_range : goal.returns-then-is_in_range
returns-then-is_in_range c = c.on_known.ensures

-- src/knowledge.rt:70:9
pub on_image-answer-requires : goal.on_image-answer-requires
on_image-answer-requires c = record { image = passed_image _ _ _ _ c.requires.0 c.requires.1 c.requires.2; time_le_max_number = passed_time _ _ _ _ c.requires.0 c.requires.1 c.requires.2; ranged = passed_ranged _ _ _ _ c.requires.0 c.requires.1 c.requires.2 }

-- src/knowledge.rt:62:1
pub returns : goal.returns
returns c = passed_makes _ _ _ _ c.requires.0 c.requires.1 c.requires.2 _ _ _ refl c.on_image-answer.ensures
