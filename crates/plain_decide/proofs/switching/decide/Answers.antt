use Rattle.plain_decide.proofs.Ending.{no_decision}
use Rattle.plain_decide.proofs.switching.decide.Goals as goal

pub returns-then-next : goal.returns-then-next
returns-then-next c = no_decision c.args.by.n c.args.by.c c.args.by.k c.args.by.time c.args.s c.args.cpus c.schedule-next.ensures.next_tracks c.if-next.true
