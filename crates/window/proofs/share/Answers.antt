use mathlib.Core.Path.{refl}
use Rattle.refusal.proofs.Numbered.{number_some}
use Rattle.window.proofs.Summing.{share_refused, share_given}
use Rattle.window.proofs.Checked.{passes}
use mathlib.Core.Path.{sym, ◌∙◌}
use Rattle.window.proofs.share.Goals as goal

pub returns-in-Err : goal.returns-in-Err
returns-in-Err c = share_refused _ _ _ _ c.in-Err.ensures (number_some _) c.refused.ensures

pub sum-requires : goal.sum-requires
sum-requires c = passes _ _ (sym c.in_default.ensures ∙ refl)

pub returns : goal.returns
returns c = c.accepted.ensures ∙ share_given _ _ _ _ _ c.in_default.ensures refl c.sum.ensures
