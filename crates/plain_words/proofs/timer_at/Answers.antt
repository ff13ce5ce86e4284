use Rattle.percpu.specs.Layout.{timer_at}
use Rattle.plain_words.proofs.timer_at.Goals as goal

-- src/lib.rt:46:1
pub returns : goal.returns
unfolding timer_at
returns c = c.timer_entry.ensures
