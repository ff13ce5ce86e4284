-- `runnable::update_runnable` meets its contract. Assumes nothing.
use mathlib.Core.Bool.{not}
use mathlib.Core.Path.{sym, ◌∙◌, ap}
use Rattle.context.proofs.Woken.{woken_is}
use Rattle.runnable.specs.declared.UpdateResult.TheVariants.{CanSwitch}
use Rattle.runnable.specs.Runnable.{update_runnable}
use Rattle.runnable.proofs.Due.{soft_blocked}
use Rattle.runnable.proofs.update_runnable.Goals as goal

pub returns-then-elsewhere : goal.returns-then-elsewhere
unfolding update_runnable
returns-then-elsewhere c = rw (sym c.elsewhere.ensures ∙ c.if-elsewhere.true)

pub returns-then-elsewhere-2 : goal.returns-then-elsewhere-2
unfolding update_runnable
returns-then-elsewhere-2 c = rw (sym c.elsewhere.ensures ∙ c.if-elsewhere.false, sym c.elsewhere-2.ensures ∙ c.if-elsewhere-2.true)

pub returns-then-not-contains : goal.returns-then-not-contains
unfolding update_runnable
returns-then-not-contains c = rw (sym c.elsewhere.ensures ∙ c.if-elsewhere.false, sym c.elsewhere-2.ensures ∙ c.if-elsewhere-2.false, ap not (sym c.contains.ensures) ∙ (ap not c.if-not-contains.true))

pub returns-then-is_due : goal.returns-then-is_due
unfolding update_runnable
returns-then-is_due c = rw (sym c.elsewhere.ensures ∙ c.if-elsewhere.false, sym c.elsewhere-2.ensures ∙ c.if-elsewhere-2.false, ap not (sym c.contains.ensures) ∙ (ap not c.if-not-contains.false), sym c.is_due.ensures ∙ c.if-is_due.true) (ap CanSwitch (woken_is c.args.c c.wake_up.ensures (soft_blocked c.args.schedule_time c.args.c (sym c.is_due.ensures ∙ c.if-is_due.true))))

pub returns-then-is_runnable : goal.returns-then-is_runnable
unfolding update_runnable
returns-then-is_runnable c = rw (sym c.elsewhere.ensures ∙ c.if-elsewhere.false, sym c.elsewhere-2.ensures ∙ c.if-elsewhere-2.false, ap not (sym c.contains.ensures) ∙ (ap not c.if-not-contains.false), sym c.is_due.ensures ∙ c.if-is_due.false, sym c.is_runnable.ensures ∙ c.if-is_runnable.true)

pub returns : goal.returns
unfolding update_runnable
returns c = rw (sym c.elsewhere.ensures ∙ c.if-elsewhere.false, sym c.elsewhere-2.ensures ∙ c.if-elsewhere-2.false, ap not (sym c.contains.ensures) ∙ (ap not c.if-not-contains.false), sym c.is_due.ensures ∙ c.if-is_due.false, sym c.is_runnable.ensures ∙ c.if-is_runnable.false)
