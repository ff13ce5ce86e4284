use Rattle.machine.proofs.Steps.{sized}
use Rattle.plain_words.proofs.Reading.{lent_long, lent_counted, cpu_found}
use native.Mathlib.Omega.{arith}
use Rattle.plain_words.proofs.cpu_at.Goals as goal

-- src/lib.rt:160:14
pub slice_bounds-load_cpu-end : goal.slice_bounds-load_cpu-end
slice_bounds-load_cpu-end c = omega (arith, sized c.requires.image)

-- src/lib.rt:160:5
pub load_cpu-requires : goal.load_cpu-requires
load_cpu-requires c = (lent_long _ _ c.start-at.ensures c.args.cpu.present c.requires.image, lent_counted _ _ c.start-at.ensures c.args.cpu.present c.requires.image)

-- src/lib.rt:152:1
pub returns : goal.returns
returns c = cpu_found _ _ c.start-at.ensures c.args.cpu.present c.requires.image _ c.load_cpu.ensures
