-- `handover::handing::give_up` meets its contract. Assumes nothing.
use Rattle.handover.proofs.Handed.{given_idle, given_other}
use Rattle.handover.proofs.handing.give_up.Goals as goal

pub returns-then-was_idle : goal.returns-then-was_idle
returns-then-was_idle c = given_idle c.args.q c.args.time _ c.if-was_idle.true

pub returns : goal.returns
returns c = given_other c.args.q c.args.time _ _ c.if-was_idle.false c.saturating_sub-elapsed.ensures
