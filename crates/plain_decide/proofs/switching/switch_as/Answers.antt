use Rattle.plain_decide.proofs.Ending.{kept_slice, got_slice}
use Rattle.plain_decide.proofs.switching.switch_as.Goals as goal

pub returns-in-None : goal.returns-in-None
returns-in-None c = kept_slice c.args.by.n c.args.by.c c.args.by.k c.args.by.time c.args.next c.requires.sound.1 c.from-in-None.ensures c.in-None.is c.mark_idle.ensures c.from.ensures

pub returns-in-Some : goal.returns-in-Some
returns-in-Some c = got_slice c.args.by.n c.args.by.c c.args.by.k c.args.by.time c.args.next c.requires.sound.1 c.from-in-Some-2.ensures c.in-Some.is c.switch_unless_current.ensures c.from-in-Some.ensures
