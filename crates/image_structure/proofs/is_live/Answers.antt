use Rattle.image_structure.specs.Structure.{is_live}
use Rattle.image_structure.proofs.is_live.Goals as goal

pub returns : goal.returns
unfolding is_live
returns c = rw (c.context_place-at.ensures, c.index-i.ensures)
