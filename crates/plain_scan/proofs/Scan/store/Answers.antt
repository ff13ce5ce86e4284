use Rattle.plain_scan.proofs.Scanning.{stored_is}
use Rattle.plain_scan.proofs.Scan.store.Goals as goal

pub returns : goal.returns
returns c = stored_is c.args.n c.args.self c.args.e c.args.x c.args.q c.requires.sound c.requires.x_lt_n.1
