use mathlib.Core.Path.{◌∙◌}
use Rattle.plain_calls.proofs.IsCall.{plain_is_call}
use Rattle.ronthuyal.proofs.InWindow.{operation_promises}
use Rattle.ronthuyal.proofs.ronthuyal_plain_call.Goals as goal

pub returns : goal.returns
returns c = operation_promises _ _ _ _ _ c.type_inv.image (c.call.ensures ∙ plain_is_call _ _ _ _ _)
