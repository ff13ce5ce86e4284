use Rattle.wakeup.proofs.Entering.{no_old_key}
use Rattle.wakeup.proofs.enter.remove_old_key.Goals as goal

pub returns-else-q : goal.returns-else-q
returns-else-q c = no_old_key _ c.args.q c.requires.image c.if-q.false
