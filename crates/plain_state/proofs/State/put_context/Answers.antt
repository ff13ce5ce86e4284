use Rattle.plain_state.proofs.Stating.{context_put}
use Rattle.plain_state.proofs.State.put_context.Goals as goal

pub returns : goal.returns
returns c = context_put c.args.n c.args.self c.requires.sound c.args.x c.args.q
