use Rattle.wakeup_read.proofs.Reading.{all_read}
use Rattle.wakeup_read.proofs.read_wakeups.Goals as goal

pub returns : goal.returns
returns c = all_read _ _ _ _ _ _ c.read_timers-len.ensures.1 c.read_local.ensures
