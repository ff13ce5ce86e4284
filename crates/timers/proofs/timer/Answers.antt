-- `timers::timer` meets its contract. Assumes nothing.
use mathlib.Core.Path.{refl}
use Rattle.percpu.specs.Layout.{timer_at}
use Rattle.timers.proofs.timer.Goals as goal

pub returns : goal.returns
unfolding timer_at
returns c = refl
