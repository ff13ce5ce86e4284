use Rattle.std.proofs.Common.{refl, arith}
use Rattle.std.proofs.lemmas.Result.{err_from_is_err_and}
use Rattle.cues.proofs.Asked.{asked_wrong, asked_refused, all_handed, not_yet, now_due}
use Rattle.board.proofs.Sized.{wrong_is, right_is, refused_number}
use Rattle.cues.proofs.next_due.Goals.{then-s-via-then-s, then-s-via-else-s+then-time-start_at}
use Rattle.cues.proofs.next_due.Goals as goal

pub returns-in_err-s : goal.returns-in_err-s
returns-in_err-s c = let p = err_from_is_err_and c.from_residual.result c.from_residual.ensures.1 in let w = wrong_is _ _ c.in_err-s.ensures in rw (p.1, p.2, w.1) (asked_wrong _ w.0 _)

pub check_stored-requires : goal.check_stored-requires
check_stored-requires c = let o = right_is _ _ c.in_ok-s.ensures in record { board = o.board; n_le_k = o.fewer }

pub returns-in_err-check_stored : goal.returns-in_err-check_stored
returns-in_err-check_stored c = let p = err_from_is_err_and c.from_residual-in_err-check_stored.result c.from_residual-in_err-check_stored.ensures.1 in
    rw (p.1, p.2) (asked_refused _ _ _ _ (right_is _ _ c.in_ok-s.ensures) _ _ c.in_err-check_stored.ensures (refused_number _))

pub returns-then-s : goal.returns-then-s
returns-then-s c =
    elim c.then-s.branch [
      | then-s-via-then-s w ↦ all_handed _ _ _ _ (right_is _ _ c.in_ok-s.ensures) _ _ c.in_ok-check_stored.ensures refl w.if-s.true
      | then-s-via-else-s+then-time-start_at w ↦
          not_yet _ _ _ _ (right_is _ _ c.in_ok-s.ensures) _ _ c.in_ok-check_stored.ensures refl _ w.if-s.false w.start_at.ensures w.if-time-start_at.true
    ]

pub start_at-requires : goal.start_at-requires
start_at-requires c = let o = right_is _ _ c.in_ok-s.ensures in record { board = o.board; i_lt_k = omega (arith, o.fewer, c.if-s.false) }

pub returns : goal.returns
returns c = now_due _ _ _ _ (right_is _ _ c.in_ok-s.ensures) _ _ c.in_ok-check_stored.ensures refl _ c.if-s.false c.start_at.ensures c.if-time-start_at.false
