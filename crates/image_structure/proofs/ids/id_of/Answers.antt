use Rattle.image_structure.specs.Structure.{id_of}
use Rattle.image_structure.proofs.ids.id_of.Goals as goal

pub returns : goal.returns
unfolding id_of
returns c = rw c.context_place-at.ensures
