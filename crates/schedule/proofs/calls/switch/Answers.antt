-- `schedule::calls::switch` meets its contract. Assumes nothing.
use Rattle.schedule.proofs.Called.{can_begin, switch_decides}
use Rattle.schedule.proofs.calls.switch.Goals as goal

pub switch_inner-requires : goal.switch_inner-requires
switch_inner-requires c = record { image = c.requires.image; bounded = c.requires.bounded; can_begin = can_begin c.args.time c.args.cpu.present c.requires.ranged c.requires.k_bound }

pub returns : goal.returns
returns c = switch_decides c.args.time c.switch_inner.ensures
