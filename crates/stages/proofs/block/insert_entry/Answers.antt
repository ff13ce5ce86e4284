use Rattle.columns.proofs.Tests.{never}
use Rattle.stages.proofs.Blocks.{inserted}
use mathlib.Core.Path.{sym, ◌∙◌, refl}
use Rattle.stages.proofs.block.insert_entry.Goals as goal

pub returns : goal.returns
returns c = λ p e l s. ((c.in_ok-insert.ensures p e l s).0, λ f. inserted _ _ p (c.in_ok-insert.ensures p e l s).0 refl (c.in_ok-insert.ensures p e l s).1)
