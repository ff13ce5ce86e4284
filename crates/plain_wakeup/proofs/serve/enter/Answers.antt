use Rattle.plain_wakeup.proofs.Serving.{enters}
use Rattle.plain_wakeup.proofs.serve.enter.Goals as goal

pub returns : goal.returns
returns c = enters c.args.n c.args.s c.args.x c.args.c c.enter_record-e.ensures c.made_active.ensures c.join.ensures
