use Rattle.ask.proofs.Inside.{tried_inside, told}
use borrow.Author.Rules.{rules}
use Rattle.ask.proofs.ask.Goals as goal

pub asked_of-requires : goal.asked_of-requires
asked_of-requires c = tried_inside _ _ _ _ c.on_copy-a.ensures _ c.contexts.ensures (search rules)

pub returns : goal.returns
returns c = told _ _ _ _ c.on_copy-a.ensures _ c.contexts.ensures c.asked_of.ensures
