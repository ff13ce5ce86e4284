use Rattle.steal.proofs.Searching.{stolen_gone, stolen_live}
use Rattle.machine.proofs.Looked.{gone_at, live_at, live_below, live_gone, live_record}
use Rattle.steal.proofs.search.can_be_stolen.Goals as goal

pub returns-in_default : goal.returns-in_default
returns-in_default c = λ M e o. stolen_gone _ _ M.contexts _ _ _ (gone_at c.requires.image _ c.requires.bounded c.look_up.ensures c.in_default.is M e o)

pub load-q-requires : goal.load-q-requires
load-q-requires c = record { image = c.requires.image; x_lt_n = live_below c.requires.image _ c.requires.bounded c.look_up.ensures c.in-Some.is }

pub returns : goal.returns
returns c = λ M e o. stolen_live _ _ M.contexts _ _ _ c.word.ensures (live_at c.requires.image _ c.requires.bounded c.look_up.ensures c.in-Some.is M e o).is (live_gone c.requires.image _ c.requires.bounded c.look_up.ensures c.in-Some.is c.load-q.ensures) (live_record c.requires.image _ c.requires.bounded c.look_up.ensures c.in-Some.is c.load-q.ensures M e o) c.can_be_stolen.ensures
