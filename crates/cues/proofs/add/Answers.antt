use Rattle.std.proofs.lemmas.Result.{err_from_is_err_and}
use Rattle.cues.proofs.Accepted.{offered_room, free_board, add_refused, add_stored}
use Rattle.cues.proofs.add.Goals as goal

pub returns-in_err-s : goal.returns-in_err-s
returns-in_err-s c = let p = err_from_is_err_and c.from_residual.result c.from_residual.ensures.1 in rw (p.1, p.2) (add_refused _ _ _ c.in_err-s.ensures)

pub store-requires : goal.store-requires
store-requires c = record { board = free_board _ _ _ c.in_ok-s.ensures; n_lt_k = offered_room _ _ _ _ _ _ c.in_ok-s.ensures }

pub returns : goal.returns
returns c = add_stored _ _ _ c.in_ok-s.ensures _ c.store.ensures
