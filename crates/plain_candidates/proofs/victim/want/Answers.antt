use Rattle.plain_candidates.proofs.Gathered.{wanted_is}
use Rattle.plain_candidates.proofs.victim.want.Goals as goal

pub returns : goal.returns
returns c = (wanted_is c.args.n c.args.s c.requires.0 c.args.v c.requires.1 c.half_of.ensures.0, c.half_of.ensures.1)
