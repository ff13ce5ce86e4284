use mathlib.Core.Path.{sym, ◌∙◌}
use Rattle.asked.proofs.Told.{own_refusal, none_same, last_differs}
use Rattle.asked.proofs.commit_refusal.Goals as goal

pub returns-then-now-ne0 : goal.returns-then-now-ne0
returns-then-now-ne0 c = own_refusal _ _ c.if-now-ne0.true

pub returns-then-same : goal.returns-then-same
returns-then-same c = none_same _ _ c.if-now-ne0.false (sym c.same.ensures ∙ c.if-same.true)

pub returns : goal.returns
returns c = last_differs _ _ c.if-now-ne0.false (sym c.same.ensures ∙ c.if-same.false)
