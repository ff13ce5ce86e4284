use mathlib.Core.Path.{refl}
use native.Mathlib.Omega.{arith}
use Rattle.plain_lists.proofs.Filling.{filled_none}
use Rattle.plain_words.proofs.Reading.{cpus_next, cpus_read}
use Rattle.plain_words.proofs.load_cpus.Goals as goal

-- src/lib.rt:171:5
pub loop-k-init : goal.loop-k-init
loop-k-init c = (filled_none _ _ 4 _ refl, (c.cpu_at-cpus.ensures.0, (c.cpu_at-cpus.ensures.0, (c.cpu_at-cpus.ensures.0, (c.cpu_at-cpus.ensures.0, tt)))))

-- src/lib.rt:171:5
pub loop-k-preserved : goal.loop-k-preserved
loop-k-preserved c = cpus_next _ _ _ _ _ _ _ c.loop-k.invariant (omega (arith, c.requires.fits.bounds.1)) c.cpu_at.ensures

-- src/lib.rt:164:1
pub returns : goal.returns
returns c = cpus_read _ _ _ _ _ _ c.requires.fits.bounds.1 c.loop-k.invariant c.loop-k-test.false
