use mathlib.Core.Path.{ap}
use Rattle.refusal.specs.Number.{numbered}
use borrow.Author.Rules.{rules}
use Rattle.ronthuyal.proofs.Left.{tick_promises}
use Rattle.model.specs.Accepted.{by_tick}
use Rattle.ronthuyal.proofs.Demanded.{demand_refused, demand_decided, stands_tick}
use Rattle.calls.proofs.Called.{call_refused, call_image, call_time, call_ranged, call_done}
use Rattle.ronthuyal.proofs.single.ronthuyal_tick.Goals as goal

pub tick-requires : goal.tick-requires
tick-requires c = record { image = call_image _ _ _ c.check-checked.ensures _ _ (ap numbered c.in-Ok.is); time_le_max_number = call_time _ _ _ c.check-checked.ensures _ _ (ap numbered c.in-Ok.is); ranged = call_ranged _ _ _ c.check-checked.ensures _ _ (ap numbered c.in-Ok.is) }

pub returns-in-Err : goal.returns-in-Err
returns-in-Err c = tick_promises _ _ _ 0 (search rules) (call_refused _ _ _ c.check-checked.ensures _ _ (ap numbered c.in-Err.is) c.refused.ensures) (demand_refused _ _ _ c.check-checked.ensures _ _ _ _ (ap numbered c.in-Err.is) c.refused.ensures)

pub returns-in-Ok : goal.returns-in-Ok
returns-in-Ok c = tick_promises _ _ _ 0 c.type_inv.image (call_done _ _ _ c.check-checked.ensures _ _ _ (ap numbered c.in-Ok.is) (λ M e o. (c.tick.ensures M e o).replies)) (demand_decided _ _ _ c.check-checked.ensures _ _ _ by_tick (stands_tick 0) _ _ (ap numbered c.in-Ok.is) c.tick.ensures)
