use mathlib.Core.Path.{◌∙◌}
use lib.ListN.{length-set}
use Rattle.rounds.proofs.Playing.{asleep_plays}
use native.Mathlib.Omega.{arith}
use Rattle.rounds.proofs.asleep.Goals as goal

-- src/lib.rt:63:5
pub bounds-m-at-2 : goal.bounds-m-at-2
bounds-m-at-2 c = simp length-set (omega (arith, c.context_place-at.ensures, c.requires.0))

-- src/lib.rt:57:1
pub shape_of-m : goal.shape_of-m
shape_of-m c = c.block.auto.m ∙ simp length-set

-- src/lib.rt:57:1
pub returns : goal.returns
returns c = asleep_plays _ c.args.m.now _ c.args.cpu c.args.x _ _ c.args.time c.context_place-at.ensures c.word.ensures c.block.ensures
