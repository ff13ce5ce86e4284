use native.Mathlib.Omega.{arith}
use Rattle.apart.specs.Words.{is_listed}
use Rattle.apart.proofs.Words.{listed_among}
use Rattle.apart.proofs.is_listed.Goals as goal

pub returns : goal.returns
unfolding is_listed
returns c = listed_among c.args.b.now c.args.start _ c.args.x (omega (arith, c.index-count.ensures, c.requires.count, c.requires.inside, c.requires.size)) c.index-count.ensures c.contains.ensures.value
