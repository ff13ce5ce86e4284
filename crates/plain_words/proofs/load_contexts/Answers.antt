use mathlib.Core.Path.{refl}
use native.Mathlib.Omega.{arith}
use Rattle.machine.specs.Machine.{no_context}
use Rattle.plain_lists.proofs.Filling.{filled_none, filled_next}
use Rattle.plain_words.proofs.Reading.{contexts_read}
use Rattle.plain_words.proofs.load_contexts.Goals as goal

-- src/lib.rt:144:5
pub loop-x-init : goal.loop-x-init
loop-x-init c = filled_none _ _ 64 _ refl

-- src/lib.rt:144:5
pub loop-x-preserved : goal.loop-x-preserved
loop-x-preserved c = filled_next no_context _ _ _ _ c.loop-x.invariant (omega (arith, c.requires.fits.bounds.3)) c.load.ensures

-- src/lib.rt:137:1
pub returns : goal.returns
returns c = contexts_read _ _ _ _ _ c.requires.fits.bounds.3 c.loop-x.invariant c.loop-x-test.false
