use Rattle.plain_handover.proofs.Handed.{handed}
use Rattle.plain_handover.proofs.handing.hand_over.Goals as goal

pub returns : goal.returns
returns c = handed c.args.n c.args.s c.args.time c.args.was_idle c.args.x c.index-y.ensures c.context.ensures c.give_up.ensures c.put_context-t.ensures c.take_over.ensures
