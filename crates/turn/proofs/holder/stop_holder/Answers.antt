-- `turn::charging::stop_holder` meets its contract. Assumes nothing.
use mathlib.Core.Path.{refl}
use native.Mathlib.Omega.{arith}
use Rattle.turn.proofs.Charged.{stopped_timer, stopped_untimed}
use Rattle.turn.proofs.holder.stop_holder.Goals as goal

pub insert_newest_timer-requires : goal.insert_newest_timer-requires
insert_newest_timer-requires c = record { image = c.deactivate.ensures.image refl; bounded = (omega (arith, c.word.ensures, c.requires.bounded)) }

pub returns-then-q : goal.returns-then-q
returns-then-q c = stopped_timer c.args.x c.args.b c.args.q _ c.args.cpu.present c.if-q.true c.word.ensures c.deactivate.ensures c.insert_newest_timer.ensures

pub returns : goal.returns
returns c = stopped_untimed c.args.x c.args.b c.args.q c.if-q.false c.deactivate.ensures
