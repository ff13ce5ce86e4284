-- `switch_to::switch_from` meets its contract. Assumes nothing.
use Rattle.std.proofs.lemmas.Result.{err_from_is_err_and}
use mathlib.Core.Path.{refl}
use Rattle.switch_to.proofs.Switching.{switched_full, switched_room}
use Rattle.switch_to.proofs.Recorded.{left_fits}
use Rattle.switch_to.proofs.switch_from.Goals as goal

pub returns-in_err-save : goal.returns-in_err-save
returns-in_err-save c = let p = err_from_is_err_and c.from_residual.result c.from_residual.ensures.1 in rw p.1 (switched_full c.args.time c.args.x c.args.y c.args.b c.args.q refl c.in_err-save.ensures)

pub store_context-requires : goal.store_context-requires
store_context-requires c = record { image = c.in_ok-save.ensures.image refl; bounded = (c.requires.bounded.1); context_fits = left_fits c.args.b c.args.q c.args.time c.leave-after.ensures c.requires.context_fits }

pub enter-requires : goal.enter-requires
enter-requires c = record { image = c.store_context.ensures.image refl; bounded = (c.requires.bounded.0); block_fits = c.requires.block_fits }

pub returns : goal.returns
returns c = switched_room c.args.time c.args.x c.args.y c.args.b c.args.q refl c.args.cpu.present c.leave-after.ensures c.in_ok-save.ensures c.store_context.ensures c.enter.ensures
