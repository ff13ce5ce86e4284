use Rattle.std.proofs.Common.{refl}
use Rattle.std.proofs.lemmas.Result.{err_from_is_err_and}
use Rattle.cues.proofs.Asked.{offered_wrong, offer_refused, board_full, slot_free}
use Rattle.board.proofs.Sized.{wrong_is, right_is, refused_number}
use Rattle.cues.proofs.free_slot.Goals as goal

pub returns-in_err-s : goal.returns-in_err-s
returns-in_err-s c = let p = err_from_is_err_and c.from_residual.result c.from_residual.ensures.1 in let w = wrong_is _ _ c.in_err-s.ensures in rw (p.1, p.2, w.1) (offered_wrong _ w.0 _)

pub check_offered-requires : goal.check_offered-requires
check_offered-requires c = let o = right_is _ _ c.in_ok-s.ensures in record { board = o.board; n_le_k = o.fewer }

pub returns-in_err-check_offered : goal.returns-in_err-check_offered
returns-in_err-check_offered c = let p = err_from_is_err_and c.from_residual-in_err-check_offered.result c.from_residual-in_err-check_offered.ensures.1 in
    rw (p.1, p.2) (offer_refused _ _ _ _ (right_is _ _ c.in_ok-s.ensures) _ _ c.in_err-check_offered.ensures (refused_number _))

pub returns-then-s : goal.returns-then-s
returns-then-s c = board_full _ _ _ _ (right_is _ _ c.in_ok-s.ensures) _ _ c.in_ok-check_offered.ensures refl c.if-s.true

pub returns : goal.returns
returns c = slot_free _ _ _ _ (right_is _ _ c.in_ok-s.ensures) _ _ c.in_ok-check_offered.ensures refl c.if-s.false
