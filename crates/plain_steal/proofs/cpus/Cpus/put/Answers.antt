use Rattle.plain_steal.proofs.Robbed.{cpu_put}
use Rattle.plain_steal.proofs.cpus.Cpus.put.Goals as goal

pub returns : goal.returns
returns c = cpu_put c.args.c c.args.self c.requires.0 c.args.j c.requires.2 c.args.p c.requires.1
