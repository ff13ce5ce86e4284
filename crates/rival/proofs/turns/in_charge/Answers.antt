use Rattle.rival.proofs.Telling.{charge_at}
use Rattle.rival.proofs.turns.in_charge.Goals as goal

-- src/turns.rt:44:1
pub returns : goal.returns
returns c = charge_at c.args.p c.args.m.now _ c.cpu_place-at.ensures
