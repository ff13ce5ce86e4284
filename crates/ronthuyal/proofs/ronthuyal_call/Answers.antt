use Rattle.ronthuyal.proofs.InWindow.{operation_promises}
use Rattle.ronthuyal.proofs.ronthuyal_call.Goals as goal

pub returns : goal.returns
returns c = operation_promises _ _ _ _ _ c.type_inv.image c.call.ensures
