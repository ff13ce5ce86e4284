use Rattle.plain_ops.proofs.Loading.{can_decide, cpus_here, by_tick_is, by_switch_is, by_direct_is}
use Rattle.plain_ops.proofs.decide.Goals as goal

pub tick-requires : goal.tick-requires
tick-requires c = (can_decide c.requires.callable c.load-loaded.ensures, cpus_here c.requires.callable c.load-loaded.ensures)

pub switch-requires : goal.switch-requires
switch-requires c = (can_decide c.requires.callable c.load-loaded.ensures, cpus_here c.requires.callable c.load-loaded.ensures)

pub direct_switch_to-requires : goal.direct_switch_to-requires
direct_switch_to-requires c = (can_decide c.requires.callable c.load-loaded.ensures, cpus_here c.requires.callable c.load-loaded.ensures, c.requires.callable.target _ c.in-DirectSwitchTo.is)

pub returns-in-Tick : goal.returns-in-Tick
returns-in-Tick c = λ M e f. by_tick_is c.args.cpu.c c.args.cpu.n c.args.cpu.k c.args.time _ c.load-loaded.ensures c.args.d M e f c.in-Tick.is c.tick.ensures

pub returns-in-Switch : goal.returns-in-Switch
returns-in-Switch c = λ M e f. by_switch_is c.args.cpu.c c.args.cpu.n c.args.cpu.k c.args.time _ c.load-loaded.ensures c.args.d M e f c.in-Switch.is c.switch.ensures

pub returns-in-DirectSwitchTo : goal.returns-in-DirectSwitchTo
returns-in-DirectSwitchTo c = λ M e f. by_direct_is c.args.cpu.c c.args.cpu.n c.args.cpu.k c.args.time _ c.load-loaded.ensures c.args.d M e f _ c.in-DirectSwitchTo.is c.direct_switch_to.ensures
