use mathlib.Core.Path.{sym}
use lib.ListN.{get_or-eq_default}
use native.Mathlib.Omega.{arith}
use Rattle.asked.proofs.contexts.Goals as goal

pub returns : goal.returns
returns c = sym (get_or-eq_default c.args.image.now 0 {n = 1} (omega arith))
