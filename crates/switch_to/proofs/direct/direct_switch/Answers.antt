-- `switch_to::direct::direct_switch` meets its contract. Assumes nothing.
use Rattle.std.proofs.lemmas.Result.{err_from_is_err_and}
use mathlib.Core.Bool.{true, false}
use mathlib.Core.Path.{refl}
use native.Mathlib.Omega.{arith}
use Rattle.stages.proofs.Kept.{context_kept, ranged_stage}
use Rattle.switch_to.proofs.Directly.{direct_done}
use Rattle.switch_to.proofs.direct.direct_switch.Goals as goal

pub switch_to-requires : goal.switch_to-requires
switch_to-requires c = record { image = c.store_context.ensures.image refl; bounded = c.requires.bounded; ranged = ranged_stage (omega arith) (omega arith) c.args.cpu.present c.store_context.ensures (λ M o b. context_kept _ b _ c.args.q c.requires.context_below) c.requires.ranged }

pub returns-in_err-switch_to : goal.returns-in_err-switch_to
returns-in_err-switch_to c = let p = err_from_is_err_and c.from_residual.result c.from_residual.ensures.1 in rw p.1 (direct_done c.args.time c.args.x c.args.q true refl c.args.cpu.present c.store_context.ensures c.in_err-switch_to.ensures)

pub returns : goal.returns
returns c = direct_done c.args.time c.args.x c.args.q false refl c.args.cpu.present c.store_context.ensures c.in_ok-switch_to.ensures
