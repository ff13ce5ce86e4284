use Rattle.plain_decide.proofs.Ending.{switched_back, not_back}
use Rattle.plain_decide.proofs.switching.switch_inner.Goals as goal

pub returns-in-Some : goal.returns-in-Some
returns-in-Some c = switched_back c.args.by.n c.args.by.c c.args.by.k c.args.by.time c.args.s c.args.cpus c.requires.can_begin.1.all c.in-Some.ensures c.switched.ensures

pub returns-in-None : goal.returns-in-None
returns-in-None c = not_back c.args.by.n c.args.by.c c.args.by.k c.args.by.time c.args.s c.args.cpus c.in-None.ensures c.decide.ensures
