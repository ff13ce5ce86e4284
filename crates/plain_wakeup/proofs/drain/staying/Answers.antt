use Rattle.std.proofs.Common.{arith}
use Rattle.plain_lists.proofs.Arrays.{any_default}
use Rattle.plain_lists.proofs.Keeping.{kept_next}
use Rattle.plain_state.specs.States.{state_in}
use Rattle.plain_wakeup.specs.Wakeups.{entry_stays}
use Rattle.plain_wakeup.proofs.Drained.{name_at}
use Rattle.plain_wakeup.proofs.drain.staying.Goals as goal

pub stays-requires : goal.stays-requires
stays-requires c = (c.requires.0, rw c.timer_of.ensures (name_at _ _ _ _ c.as_slice_sized-e-items.ensures c.loop-e-test.true c.requires.1.cpu.timers), c.requires.2)

pub loop-e-preserved : goal.loop-e-preserved
loop-e-preserved c =
    record {
      sized = c.push_if_sized-out.ensures.stands.sized;
      few = omega arith;
      kept = kept_next (entry_stays c.args.time (state_in c.args.n c.args.s)) _ _ _ _ _ _ c.loop-e-test.true (any_default _ _ _ _ c.loop-e-test.true) (rw c.timer_of.ensures at c.stays.ensures) c.loop-e.invariant.kept c.push_if_sized-out.ensures.stands.is;
    }
