use Rattle.decide.proofs.Shown.{in_image, shown}
use borrow.Author.Rules.{rules}
use Rattle.decide.proofs.output.of_call.Goals as goal

pub asked_of-requires : goal.asked_of-requires
asked_of-requires c = in_image _ _ _ _ _ _ c.ronthuyal_call-a.ensures.image_after c.contexts-n.ensures (search rules)

pub returns : goal.returns
returns c = shown _ _ _ _ _ _ c.ronthuyal_call-a.ensures.image_after c.contexts-n.ensures c.asked_of.ensures
