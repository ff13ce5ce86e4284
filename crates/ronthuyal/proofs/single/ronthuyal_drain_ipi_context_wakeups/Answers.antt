use mathlib.Core.Path.{ap}
use Rattle.refusal.specs.Number.{numbered}
use Rattle.ronthuyal.proofs.Left.{drain_promises}
use Rattle.calls.proofs.Called.{call_refused, call_image, call_done}
use Rattle.ronthuyal.proofs.single.ronthuyal_drain_ipi_context_wakeups.Goals as goal

pub drain_ipi_context_wakeups-requires : goal.drain_ipi_context_wakeups-requires
drain_ipi_context_wakeups-requires c = call_image _ _ _ c.check-checked.ensures _ _ (ap numbered c.in-Ok.is)

pub returns-in-Err : goal.returns-in-Err
returns-in-Err c = drain_promises _ _ _ 0 (call_refused _ _ _ c.check-checked.ensures _ _ (ap numbered c.in-Err.is) c.refused.ensures)

pub returns-in-Ok : goal.returns-in-Ok
returns-in-Ok c = drain_promises _ _ _ 0 (call_done _ _ _ c.check-checked.ensures _ _ _ (ap numbered c.in-Ok.is) c.drain_ipi_context_wakeups.ensures)
