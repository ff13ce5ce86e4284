-- `handover::settling::settle` meets its contract. Assumes nothing.
use Rattle.std.proofs.Common.{rules}
use Rattle.std.proofs.lemmas.Result.{err_from_is_err_and}
use mathlib.Core.Path.{refl}
use Rattle.handover.proofs.Settled.{settled_full, settled_room}
use Rattle.handover.proofs.settling.settle.Goals as goal

pub send_back-requires : goal.send_back-requires
send_back-requires c = record { image = c.advance.ensures.image refl }

pub returns-in_err-send_back : goal.returns-in_err-send_back
returns-in_err-send_back c = let p = err_from_is_err_and c.from_residual.result c.from_residual.ensures.1 in rw p.1 (settled_full c.args.won c.args.runs c.args.elapsed_ticks c.args.cpu.present (search rules) c.advance.ensures c.in_err-send_back.ensures refl)

pub mark_stealable-requires : goal.mark_stealable-requires
mark_stealable-requires c = record { image = c.in_ok-send_back.ensures.image refl }

pub returns : goal.returns
returns c = settled_room c.args.won c.args.runs c.args.elapsed_ticks c.args.cpu.present (search rules) c.advance.ensures c.in_ok-send_back.ensures refl c.mark_stealable.ensures
