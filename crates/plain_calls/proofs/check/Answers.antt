use Rattle.plain_calls.proofs.Answering.{refusal_is}
use Rattle.plain_calls.proofs.check.Goals as goal

-- src/lib.rt:42:40
pub check_direct-requires : goal.check_direct-requires
check_direct-requires c = record { image = c.requires.image; bounded = (c.requires.bounded _ c.in-DirectSwitchTo.is) }

-- src/lib.rt:34:1
pub returns-in-Tick : goal.returns-in-Tick
returns-in-Tick c = refusal_is c.args.cpu.c c.args.cpu.n c.args.cpu.k c.args.time _ c.args.d _ _ c.in-Tick.is c.check_decision.ensures

-- src/lib.rt:34:1
pub returns-in-Switch : goal.returns-in-Switch
returns-in-Switch c = refusal_is c.args.cpu.c c.args.cpu.n c.args.cpu.k c.args.time _ c.args.d _ _ c.in-Switch.is c.check_decision-in-Switch.ensures

-- src/lib.rt:34:1
pub returns-in-DirectSwitchTo : goal.returns-in-DirectSwitchTo
returns-in-DirectSwitchTo c = refusal_is c.args.cpu.c c.args.cpu.n c.args.cpu.k c.args.time _ c.args.d _ _ c.in-DirectSwitchTo.is c.check_direct.ensures
