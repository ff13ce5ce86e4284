use mathlib.Core.Path.{ap}
use Rattle.refusal.specs.Number.{numbered}
use Rattle.ronthuyal.proofs.Left.{block_promises}
use Rattle.calls.proofs.Called.{call_refused, call_image, call_done}
use Rattle.ronthuyal.proofs.single.ronthuyal_block.Goals as goal

pub block-requires : goal.block-requires
block-requires c = call_image _ _ _ c.check-checked.ensures _ _ (ap numbered c.in-Ok.is)

pub returns-in-Err : goal.returns-in-Err
returns-in-Err c = block_promises _ _ _ _ (call_refused _ _ _ c.check-checked.ensures _ _ (ap numbered c.in-Err.is) c.refused.ensures)

pub returns-in-Ok : goal.returns-in-Ok
returns-in-Ok c = block_promises _ _ _ _ (call_done _ _ _ c.check-checked.ensures _ _ _ (ap numbered c.in-Ok.is) c.block.ensures)
