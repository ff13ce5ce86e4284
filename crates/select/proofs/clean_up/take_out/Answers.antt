use Rattle.stages.proofs.Reading.{stage_none}
use Rattle.select.proofs.Cleaning.{taken_as}
use Rattle.select.proofs.clean_up.take_out.Goals as goal

pub returns-in_default : goal.returns-in_default
returns-in_default c = taken_as c.in_default.is (stage_none c.requires.image)
