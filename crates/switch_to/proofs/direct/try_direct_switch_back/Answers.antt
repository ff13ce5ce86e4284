-- `switch_to::direct::try_direct_switch_back` meets its contract. Assumes nothing.
use Rattle.stages.proofs.Reading.{sched_named}
use Rattle.switch_to.proofs.Directly.{in_charge, switched_back}
use Rattle.switch_to.proofs.direct.try_direct_switch_back.Goals as goal

pub returns-then-b : goal.returns-then-b
returns-then-b c = in_charge _ c.args.time _ c.load_block-b.ensures c.if-b.true c.requires.image

pub direct_switch_by-requires : goal.direct_switch_by-requires
direct_switch_by-requires c = record { image = c.requires.image; bounded = (sched_named _ _ c.load_block-b.ensures _ c.index-x.ensures c.requires.image c.args.cpu.present, c.requires.bounded); ranged = c.requires.ranged }

pub returns : goal.returns
returns c = switched_back _ c.args.time _ c.load_block-b.ensures _ c.if-b.false c.index-x.ensures c.direct_switch_by.ensures
