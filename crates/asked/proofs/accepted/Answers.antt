use Rattle.asked.proofs.Told.{accepted_at}
use Rattle.asked.proofs.accepted.Goals as goal

pub returns : goal.returns
returns c = accepted_at c.args.n c.args.cpu c.args.res c.cpu_place-at.result c.args.image.now c.cpu_place-at.ensures
