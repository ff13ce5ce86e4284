use Rattle.stages.proofs.Lent.{staged_context}
use Rattle.stages.proofs.store_context.Goals as goal

pub returns : goal.returns
returns c = staged_context _ _ _ c.args.cpu.present c.store.ensures c.requires.image
