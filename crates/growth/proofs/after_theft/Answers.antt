use mathlib.Core.Path.{refl}
use Rattle.growth.proofs.Tested.{with_theft, without_theft}
use Rattle.growth.proofs.after_theft.Goals as goal

-- src/lib.rt:29:9
pub returns-then-steals : goal.returns-then-steals
returns-then-steals c = with_theft _ _ _ c.if-steals.true c.requires refl

-- src/lib.rt:24:1
pub returns : goal.returns
returns c = without_theft _ _ c.if-steals.false c.requires
