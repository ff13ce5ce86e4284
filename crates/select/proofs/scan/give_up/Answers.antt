use Rattle.std.proofs.lemmas.List.{take_more_set}
use mathlib.Core.Path.{refl}
use native.Mathlib.Omega.{arith}
use Rattle.select.proofs.scan.give_up.Goals as goal

pub returns : goal.returns
returns c = (refl, take_more_set _ _ c.args.key (omega arith))
