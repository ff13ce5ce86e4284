use mathlib.Core.Path.{ap}
use Rattle.refusal.specs.Number.{numbered}
use borrow.Author.Rules.{rules}
use Rattle.ronthuyal.proofs.Left.{direct_switch_to_promises}
use Rattle.ronthuyal.proofs.Demanded.{demand_refused, demand_directed}
use Rattle.calls.proofs.Called.{call_refused, call_image, call_time, call_ranged, call_done}
use Rattle.ronthuyal.proofs.single.ronthuyal_direct_switch_to.Goals as goal

pub direct_switch_to-requires : goal.direct_switch_to-requires
direct_switch_to-requires c = record { image = call_image _ _ _ c.check-checked.ensures _ _ (ap numbered c.in-Ok.is); time_le_max_number = call_time _ _ _ c.check-checked.ensures _ _ (ap numbered c.in-Ok.is); ranged = call_ranged _ _ _ c.check-checked.ensures _ _ (ap numbered c.in-Ok.is) }

pub returns-in-Err : goal.returns-in-Err
returns-in-Err c = direct_switch_to_promises _ _ _ _ (search rules) (call_refused _ _ _ c.check-checked.ensures _ _ (ap numbered c.in-Err.is) c.refused.ensures) (demand_refused _ _ _ c.check-checked.ensures _ _ _ _ (ap numbered c.in-Err.is) c.refused.ensures)

pub returns-in-Ok : goal.returns-in-Ok
returns-in-Ok c = direct_switch_to_promises _ _ _ _ c.type_inv.image (call_done _ _ _ c.check-checked.ensures _ _ _ (ap numbered c.in-Ok.is) (λ M e o. (c.direct_switch_to.ensures M e o).replies)) (demand_directed _ _ _ c.check-checked.ensures _ _ _ _ (ap numbered c.in-Ok.is) c.direct_switch_to.ensures)
