use Rattle.wakeup_read.proofs.Draining.{timer_left, timer_out}
use Rattle.wakeup_read.proofs.take_out.take_timer.Goals as goal

pub returns-then-is_unreadable : goal.returns-then-is_unreadable
returns-then-is_unreadable c = timer_left c.requires.image _ _ _ _ _ c.load_block-b.ensures c.timer-t.ensures c.is_unreadable.ensures c.if-is_unreadable.true

pub returns : goal.returns
returns c = timer_out c.requires.image _ _ _ _ _ c.load_block-b.ensures c.timer-t.ensures c.is_unreadable.ensures c.if-is_unreadable.false c.remove_timer.ensures
