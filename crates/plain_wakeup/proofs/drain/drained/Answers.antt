use Rattle.plain_wakeup.proofs.Drained.{drained_became}
use Rattle.plain_wakeup.proofs.drain.drained.Goals as goal

pub returns : goal.returns
returns c = drained_became c.args.n c.args.time c.args.s c.requires.0 c.cleared-s.ensures.stands c.staying-s.ensures
