use Rattle.std.proofs.Common.{refl, sym}
use Rattle.std.proofs.lemmas.Result.{err_from_is_err_and}
use Rattle.board.specs.Board.{offered}
use Rattle.board.proofs.Sized.{refused_number}
use Rattle.cues.proofs.Offered.{offered_long, stored_refused, offered_early, offered_well}
use Rattle.cues.proofs.check_offered.Goals as goal

pub returns-then-not-lengths_fit : goal.returns-then-not-lengths_fit
unfolding offered
returns-then-not-lengths_fit c = offered_long _ _ c.args.q.start _ _ _ refl (sym c.word-first.ensures) (sym c.word-second.ensures) _ c.lengths_fit.ensures c.if-not-lengths_fit.true

pub returns-in_err-check_stored : goal.returns-in_err-check_stored
unfolding offered
returns-in_err-check_stored c = let p = err_from_is_err_and c.from_residual.result c.from_residual.ensures.1 in rw (p.1, p.2)
    (stored_refused _ _ c.args.q.start _ _ _ refl (sym c.word-first.ensures) (sym c.word-second.ensures) _ c.lengths_fit.ensures c.if-not-lengths_fit.false _ c.in_err-check_stored.ensures (refused_number _))

pub returns-then-not-starts_later : goal.returns-then-not-starts_later
unfolding offered
returns-then-not-starts_later c = offered_early _ _ _ _ _ _ refl (sym c.word-first.ensures) (sym c.word-second.ensures) _ c.lengths_fit.ensures c.if-not-lengths_fit.false _ c.in_ok-check_stored.ensures refl _ c.starts_later.ensures c.if-not-starts_later.true

pub returns : goal.returns
unfolding offered
returns c = offered_well _ _ _ _ _ _ refl (sym c.word-first.ensures) (sym c.word-second.ensures) _ c.lengths_fit.ensures c.if-not-lengths_fit.false _ c.in_ok-check_stored.ensures refl _ c.starts_later.ensures c.if-not-starts_later.false
