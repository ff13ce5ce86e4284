use Rattle.switch_ops.specs.Reply.{call_of}
use Rattle.plain_calls.proofs.Answering.{absent, present_on, present_below}
use Rattle.plain_calls.proofs.decide.Goals as goal

-- src/lib.rt:74:34
pub invariant_of-decide_on : goal.invariant_of-decide_on
invariant_of-decide_on c = record { present = present_below c.requires.image c.args.cpu _ _ c.get_percpu_block.ensures c.in-Some.is }

pub decide_on-requires : goal.decide_on-requires
decide_on-requires c = record { image = c.requires.image; bounded = (c.requires.time_le_max_number.0, c.requires.time_le_max_number.1); ranged = c.requires.ranged }

-- src/lib.rt:66:1
pub returns-in-Some : goal.returns-in-Some
returns-in-Some c = λ M e f. present_on _ M c.args.cpu c.args.time (call_of c.args.d) _ (c.get_percpu_block.ensures M e f) _ c.in-Some.is (c.decide_on.ensures M e f)

-- src/lib.rt:66:1
pub returns-in-None : goal.returns-in-None
returns-in-None c = λ M e f. absent _ M c.args.cpu c.args.time (call_of c.args.d) _ (c.get_percpu_block.ensures M e f) c.in-None.is c.refused.ensures
