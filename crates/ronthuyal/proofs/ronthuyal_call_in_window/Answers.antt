use Rattle.ronthuyal.proofs.InWindow.{window_promises}
use Rattle.ronthuyal.proofs.ronthuyal_call_in_window.Goals as goal

pub returns : goal.returns
returns c = window_promises _ _ _ _ _ c.type_inv.image _ c.call.ensures
