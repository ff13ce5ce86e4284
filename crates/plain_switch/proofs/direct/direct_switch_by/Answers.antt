use Rattle.plain_switch.proofs.Directly.{can_switch, by_can_switch, by_skip, by_blocked}
use Rattle.plain_state.specs.States.{state_in}
use Rattle.plain_switch.proofs.direct.direct_switch_by.Goals as goal

pub direct_switch-requires : goal.direct_switch-requires
direct_switch-requires c = record { sound = c.requires.sound; state_below = c.requires.state_below; context_fits = can_switch c.args.n c.args.x _ c.args.time c.args.own (state_in c.args.n c.args.s) c.requires.sound.1 c.requires.state_below c.requires.sound.2 c.context-q.ensures c.update_runnable.ensures c.in-CanSwitch.is }

pub returns-in-CanSwitch : goal.returns-in-CanSwitch
returns-in-CanSwitch c = by_can_switch c.args.n c.args.k c.args.time c.args.x c.args.own c.args.s c.word.ensures c.context-q.ensures c.update_runnable.ensures _ c.in-CanSwitch.is c.direct_switch.ensures

pub returns-in-Skip : goal.returns-in-Skip
returns-in-Skip c = by_skip c.args.n c.args.k c.args.time c.args.x c.args.own c.args.s c.word.ensures c.context-q.ensures c.update_runnable.ensures c.in-Skip.is

pub returns-in-Blocked : goal.returns-in-Blocked
returns-in-Blocked c = by_blocked c.args.n c.args.k c.args.time c.args.x c.args.own c.args.s c.word.ensures c.context-q.ensures c.update_runnable.ensures c.in-Blocked.is
