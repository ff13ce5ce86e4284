use mathlib.Core.Path.{ap}
use Rattle.refusal.specs.Number.{numbered}
use Rattle.ronthuyal.proofs.Grouped.{group_promises}
use Rattle.calls.proofs.Called.{call_refused, call_image, call_done}
use Rattle.ronthuyal.proofs.ronthuyal_unblock_group.Goals as goal

pub unblock_group-requires : goal.unblock_group-requires
unblock_group-requires c = call_image _ _ _ c.check-checked.ensures _ _ (ap numbered c.in-Ok.is)

pub returns-in-Err : goal.returns-in-Err
returns-in-Err c = group_promises _ _ _ _ (call_refused _ _ _ c.check-checked.ensures _ _ (ap numbered c.in-Err.is) c.refused.ensures)

pub returns-in-Ok : goal.returns-in-Ok
returns-in-Ok c = group_promises _ _ _ _ (call_done _ _ _ c.check-checked.ensures _ _ _ (ap numbered c.in-Ok.is) c.unblock_group.ensures)
