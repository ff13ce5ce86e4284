use Rattle.plain_switch.proofs.Switching.{switch_full, switch_room}
use Rattle.plain_switch.proofs.switch_to.Goals as goal

pub returns-then-t : goal.returns-then-t
returns-then-t c = switch_full c.args.n c.args.k c.args.time c.args.x c.args.s c.save-t.ensures c.if-t.true

pub returns : goal.returns
returns c = switch_room c.args.n c.args.k c.args.time c.args.x c.args.s c.save-t.ensures c.leave.ensures c.enter.ensures
