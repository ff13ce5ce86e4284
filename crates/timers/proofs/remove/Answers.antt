-- `timers::remove` meets its contract. Assumes nothing.
use Rattle.timers.proofs.Table.{timer_out}
use Rattle.timers.proofs.remove.Goals as goal

pub returns : goal.returns
returns c = record { timers_count_after = c.remove_at.ensures.counted; b_after = timer_out _ _ _ c.requires.2 c.remove_at.ensures.out }
