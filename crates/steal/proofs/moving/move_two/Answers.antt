use Rattle.std.proofs.lemmas.Result.{err_from_is_err_and}
use mathlib.Core.Path.{refl}
use Rattle.model.specs.Steal.{Moving, move_entry}
use Rattle.steal.proofs.Victims.{moves_then, moves_full}
use Rattle.steal.proofs.AfterMove.{move_stays_full}
use Rattle.steal.proofs.Movable.{movable_first, movable_second}
use Rattle.steal.proofs.moving.move_two.Goals as goal

pub move_entry-requires : goal.move_entry-requires
move_entry-requires c = record { image = c.requires.image; bounded = (c.requires.bounded.0); movable = movable_first c.args.theft.cpu.present c.requires.ranged }

pub returns-in_err-first : goal.returns-in_err-first
returns-in_err-first c = let p = err_from_is_err_and c.from_residual.result c.from_residual.ensures.1 in rw p.1 (moves_full (λ (v : Moving). move_entry c.args.theft.runs v c.args.b) refl c.in_err-first.ensures (move_stays_full c.args.theft.runs c.args.b))

pub move_entry-requires-2 : goal.move_entry-requires-2
move_entry-requires-2 c = record { image = c.in_ok-first.ensures.image refl; bounded = (c.requires.bounded.1); movable = movable_second c.args.theft.runs c.args.a c.args.theft.cpu.present c.args.theft.present c.requires.ranged c.requires.bounded.0 refl c.in_ok-first.ensures }

pub returns : goal.returns
returns c = moves_then (λ (v : Moving). move_entry c.args.theft.runs v c.args.b) c.args.theft.cpu.present c.args.theft.present c.args.theft.other refl c.in_ok-first.ensures c.move_entry-2.ensures
