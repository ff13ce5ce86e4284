use Rattle.plain_turn.proofs.Paying.{left_became, stopped_timed, stopped_untimed}
use Rattle.plain_turn.proofs.holder.stop_holder.Goals as goal

pub returns-then-q : goal.returns-then-q
returns-then-q c = stopped_timed c.args.n c.args.s c.args.x c.args.q c.requires.1 c.if-q.true (left_became c.args.n c.args.s c.args.x c.args.q c.requires.1 c.leave_weight-after.ensures c.with_turn-t.ensures c.charge_stopped.ensures c.put_context-u.ensures) c.insert_newest_timer.ensures

pub returns-else-q : goal.returns-else-q
returns-else-q c = stopped_untimed c.args.n c.args.s c.args.x c.args.q c.requires.1 c.if-q.false (left_became c.args.n c.args.s c.args.x c.args.q c.requires.1 c.leave_weight-after.ensures c.with_turn-t.ensures c.charge_stopped.ensures c.put_context-u.ensures)
