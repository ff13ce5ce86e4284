use Rattle.plain_calls.proofs.Answering.{on_tick, on_switch, on_direct_switch, delegated}
use Rattle.plain_calls.proofs.call.Goals as goal

-- src/lib.rt:133:1
pub returns-in-1 : goal.returns-in-1
returns-in-1 c = on_tick _ c.args.operation c.args.cpu c.args.time c.args.context c.in-1.is c.tick_call.ensures

-- src/lib.rt:133:1
pub returns-in-2 : goal.returns-in-2
returns-in-2 c = on_switch _ c.args.operation c.args.cpu c.args.time c.args.context c.in-2.is c.switch_call.ensures

-- src/lib.rt:133:1
pub returns-in-3 : goal.returns-in-3
returns-in-3 c = on_direct_switch _ c.args.operation c.args.cpu c.args.time c.args.context c.in-3.is c.direct_switch_call.ensures

-- src/lib.rt:133:1
pub returns-in_default : goal.returns-in_default
returns-in_default c = delegated _ c.args.operation c.args.cpu c.args.time c.args.context c.in_default.in_default-own.rest.0.0.1 c.in_default.in_default-own.rest.0.1 c.in_default.in_default-own.rest.1 c.call.ensures
