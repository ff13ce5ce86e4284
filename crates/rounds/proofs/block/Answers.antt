use mathlib.Core.Path.{ap}
use Rattle.refusal.specs.Number.{numbered}
use Rattle.calls.proofs.Called.{call_refused, call_image, call_done}
use Rattle.rounds.proofs.block.Goals as goal

-- src/lib.rt:53:34
pub block-requires : goal.block-requires
block-requires c = call_image _ _ _ c.check.ensures _ _ (ap numbered c.in-Ok.is)

-- src/lib.rt:47:1
pub returns-in-Err : goal.returns-in-Err
returns-in-Err c = call_refused _ _ _ c.check.ensures _ _ (ap numbered c.in-Err.is) c.refused.ensures

-- src/lib.rt:47:1
pub returns-in-Ok : goal.returns-in-Ok
returns-in-Ok c = call_done _ _ _ c.check.ensures _ _ _ (ap numbered c.in-Ok.is) c.block.ensures
