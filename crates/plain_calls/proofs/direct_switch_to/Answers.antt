use Rattle.plain_calls.proofs.Answering.{gone, alive, live_below}
use Rattle.plain_calls.proofs.direct_switch_to.Goals as goal

-- src/lib.rt:94:9
pub returns-in_default : goal.returns-in_default
returns-in_default c = λ M e f. gone _ M c.args.cpu c.args.time c.args.context _ (c.look_up.ensures M e f) c.in_default.is c.refused.ensures

-- src/lib.rt:96:5
pub decide-requires : goal.decide-requires
decide-requires c = record { image = c.requires.image; time_le_max_number = (c.requires.time_le_max_number, live_below c.requires.image c.args.context _ _ c.look_up.ensures c.in-Some.is); ranged = c.requires.ranged }

-- src/lib.rt:79:1
pub returns : goal.returns
returns c = λ M e f. alive _ M c.args.cpu c.args.time c.args.context _ (c.look_up.ensures M e f) _ c.in-Some.is (c.decide.ensures M e f)
