use Rattle.plain_ops.proofs.Storing.{stored}
use Rattle.plain_ops.proofs.store.Goals as goal

pub returns : goal.returns
returns c = stored c.args.cpu.c c.args.cpu.n c.args.cpu.k c.args.d c.requires.image_sized c.requires.sound.0 c.put-cpus.ensures c.store_contexts.ensures c.store_cpus.ensures
