use Rattle.std.proofs.Common.{◌≡◌, ◌≤◌, take}
use Rattle.columns.specs.Common.{keep}
use Rattle.plain_lists.specs.Lists.{entries_of, Sized}
use Rattle.plain_state.specs.States.{state_in}
use Rattle.plain_wakeup.specs.Wakeups.{entry_stays}
use Rattle.plain_wakeup.proofs.drain.staying.Given as goal

abbrev pub invariant-loop-e : goal.invariant-loop-e
invariant-loop-e l =
    record { sized : Sized l.out; few : l.out.len ≤ l.e-index; kept : entries_of l.out ≡ keep (entry_stays l.time (state_in l.n l.s)) (take l.e-index l.e-items) }
