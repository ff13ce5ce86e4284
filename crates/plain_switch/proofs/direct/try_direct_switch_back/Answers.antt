use Rattle.plain_switch.proofs.Directly.{in_charge, switched_back}
use Rattle.plain_switch.proofs.direct.try_direct_switch_back.Goals as goal

pub returns-then-b : goal.returns-then-b
returns-then-b c = in_charge c.args.n c.args.k c.args.time c.args.s c.if-b.true

pub returns : goal.returns
returns c = switched_back c.args.n c.args.k c.args.time c.args.s _ c.if-b.false c.index-x.ensures c.direct_switch_by.ensures
