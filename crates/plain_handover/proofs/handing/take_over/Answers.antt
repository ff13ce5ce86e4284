use Rattle.plain_handover.proofs.Handed.{took_over}
use Rattle.plain_handover.proofs.handing.take_over.Goals as goal

pub returns : goal.returns
returns c = took_over c.args.n c.args.s c.args.time c.args.x c.context.ensures c.take.ensures c.put_context-t.ensures c.word.ensures c.with_block.ensures
