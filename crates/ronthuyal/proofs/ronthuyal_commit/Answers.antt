use Rattle.ronthuyal.proofs.Asking.{commit_promises}
use Rattle.ronthuyal.proofs.ronthuyal_commit.Goals as goal

pub returns : goal.returns
returns c = commit_promises _ _ _ _ c.type_inv.image c.commit.ensures
