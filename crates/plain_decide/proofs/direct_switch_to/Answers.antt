use Rattle.plain_decide.proofs.Calling.{made, not_made}
use Rattle.std.proofs.Common.{refl}
use Rattle.plain_decide.proofs.direct_switch_to.Goals as goal

pub returns-in-Some : goal.returns-in-Some
returns-in-Some c = made c.args.by.n c.args.by.c c.args.by.k c.args.by.time c.args.x c.args.s c.args.cpus c.word-name.ensures _ c.in-Some.ensures c.requires.1.all c.if-b-name.false refl c.switched-in-Some.ensures

pub returns-in-None : goal.returns-in-None
returns-in-None c = not_made c.args.by.n c.args.by.c c.args.by.k c.args.by.time c.args.x c.args.s c.args.cpus c.word-name.ensures _ c.in-None.ensures c.if-b-name.false refl c.switch_inner.ensures
