use Rattle.std.specs.Prelude.{None}
use lib.ListN.{length-set}
use Rattle.wakeup_read.proofs.Reading.{wakeups_next, local_start, local_next, local_end}
use native.Mathlib.Omega.{arith}
use Rattle.wakeup_read.proofs.read_local.Goals as goal

pub loop-i-init : goal.loop-i-init
loop-i-init c = local_start _ _ _ _ _ _ _ (omega arith)

pub loop-i-preserved : goal.loop-i-preserved
loop-i-preserved c = local_next c.args.cpu.present c.loop-i.invariant _ c.loop-i-test.true c.local_len-count.ensures.0 c.local_name.ensures (wakeups_next c.loop-i.d _ (record { wake = None; context_ref = c.local_name.result }) (omega arith)) (length-set c.loop-i.d _ _)

pub returns : goal.returns
returns c = local_end c.args.cpu.present c.loop-i.invariant c.loop-i.auto.i-end c.loop-i-test.false c.requires.bounded c.local_len-count.ensures.1 c.local_len-count.ensures.2
