use mathlib.Core.Path.{sym, ◌∙◌}
use Rattle.context.proofs.Woken.{woken_is}
use Rattle.wakeup_judge.proofs.Waiting.{soft_blocked}
use Rattle.wakeup_judge.proofs.woken_by.Goals as goal

pub returns-in-Some : goal.returns-in-Some
returns-in-Some c = rw (c.in-Some.is, sym c.waits_for.ensures ∙ c.if-waits_for.true) (woken_is c.args.c c.wake_up.ensures (soft_blocked c.in-Some.wake c.args.c (sym c.waits_for.ensures ∙ c.if-waits_for.true)))
