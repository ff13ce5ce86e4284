use Rattle.window.proofs.Adding.{appends}
use lib.ListN.{length-set}
use native.Mathlib.Omega.{arith}
use Rattle.window.proofs.append.Goals as goal

pub bounds-w-count : goal.bounds-w-count
bounds-w-count c = simp length-set (omega (arith, c.requires.0, c.requires.1, c.index-count.ensures))

pub bounds-w-count-2 : goal.bounds-w-count-2
bounds-w-count-2 c = simp length-set (omega (arith, c.requires.0, c.requires.1, c.index-count.ensures))

pub returns : goal.returns
returns c = appends _ _ _ _ c.index-count.ensures c.word.ensures
