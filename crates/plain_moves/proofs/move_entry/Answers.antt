use Rattle.plain_moves.proofs.Moved.{not_moved, moved_in}
use Rattle.plain_moves.proofs.move_entry.Goals as goal

pub returns-then-m : goal.returns-then-m
returns-then-m c = not_moved c.args.n c.args.m c.args.runs c.args.e c.requires.sound.0 c.requires.sound.1 c.if-m.true

pub returns : goal.returns
returns c = moved_in c.args.n c.args.m c.args.runs c.args.e c.stolen_record-q.ensures c.move_weight-t.ensures c.index-x.ensures c.take_in.ensures
