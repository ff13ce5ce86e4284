use mathlib.Core.Path.{refl}
use Rattle.plain_words.proofs.Reading.{cpu_read}
use native.Mathlib.Omega.{arith}
use Rattle.plain_words.proofs.load_cpu.Goals as goal

-- src/lib.rt:132:20
pub bounds-w-665 : goal.bounds-w-665
bounds-w-665 c = omega (arith, c.requires.0)

-- src/lib.rt:109:1
pub returns : goal.returns
returns c = cpu_read _ _ c.load_block-block.ensures (rw c.index.ensures at c.load_queue-queue.ensures) (rw c.index-2.ensures at c.load_timers-timers.ensures) (rw c.index-3.ensures at c.load_names-local.ensures) (rw c.index-4.ensures at c.load_names-ipi.ensures) refl
