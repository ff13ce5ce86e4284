use Rattle.plain_ops.proofs.Loading.{loaded}
use Rattle.plain_ops.proofs.load.Goals as goal

pub returns : goal.returns
returns c = loaded c.requires.image c.args.cpu.k c.args.cpu.present c.load_contexts-contexts.ensures c.load_cpus-all.ensures c.cpu.ensures
