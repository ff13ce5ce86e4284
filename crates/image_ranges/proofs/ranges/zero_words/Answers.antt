-- `ranges::zero_words` meets its contract. Assumes nothing.
use mathlib.Core.Path.{refl}
use native.Mathlib.Omega.{arith}
use Rattle.image_ranges.specs.Ranges.{zero_words}
use Rattle.image_ranges.proofs.Zeros.{zeros_none, zeros_next, zeros_all}
use Rattle.image_ranges.proofs.ranges.zero_words.Goals as goal

pub loop-x-init : goal.loop-x-init
loop-x-init c = zeros_none _

pub loop-x-preserved : goal.loop-x-preserved
loop-x-preserved c = zeros_next _ c.loop-x.all _ _ c.loop-x.invariant refl

pub returns : goal.returns
unfolding zero_words
returns c = zeros_all _ c.loop-x.all _ _ (omega arith) (omega arith) c.loop-x.invariant
