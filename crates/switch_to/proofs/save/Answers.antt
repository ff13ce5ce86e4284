-- `switch_to::save` meets its contract. Assumes nothing.
use Rattle.switch_to.proofs.Switching.{saved_lost, saved_not}
use Rattle.switch_to.proofs.save.Goals as goal

pub returns-then-would_be_lost : goal.returns-then-would_be_lost
returns-then-would_be_lost c = saved_lost c.args.y c.args.b c.args.q c.would_be_lost.ensures c.if-would_be_lost.true c.push_local.ensures

pub returns : goal.returns
returns c = saved_not c.args.y c.args.b c.args.q c.would_be_lost.ensures c.if-would_be_lost.false c.requires.image
