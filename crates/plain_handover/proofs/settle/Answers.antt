use Rattle.std.proofs.Common.{rules}
use Rattle.plain_handover.proofs.Settling.{settled_all}
use Rattle.plain_handover.proofs.settle.Goals as goal

pub returns : goal.returns
returns c = settled_all c.args.n c.args.s c.args.runs c.args.winner c.args.elapsed_ticks c.is_some-won.ensures (search rules) c.advance-t.ensures c.send_back.ensures c.mark_stealable.ensures
