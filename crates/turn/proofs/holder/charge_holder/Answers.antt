-- `turn::charging::charge_holder` meets its contract. Assumes nothing.
use Rattle.turn.proofs.Charged.{charged_idle, chargeable, charged_held}
use Rattle.stages.proofs.Reading.{block_fits, context_fits, sched_named}
use Rattle.turn.proofs.holder.charge_holder.Goals as goal

pub returns-then-b : goal.returns-then-b
returns-then-b c = charged_idle _ _ _ c.load_block-b.ensures c.requires.image c.if-b.true

pub load-q-requires : goal.load-q-requires
load-q-requires c = record { image = c.requires.image; x_lt_n = sched_named _ _ c.load_block-b.ensures _ c.index-x.ensures c.requires.image c.args.cpu.present }

pub charge_context-requires : goal.charge_context-requires
charge_context-requires c = let g = sched_named _ _ c.load_block-b.ensures _ c.index-x.ensures c.requires.image c.args.cpu.present in record { image = c.requires.image; bounded = (g); block_fits = block_fits c.requires.image _ c.args.cpu.present c.load_block-b.ensures; context_fits = context_fits c.requires.image _ g c.load-q.ensures; chargeable = chargeable _ _ _ c.load_block-b.ensures _ c.index-x.ensures _ c.load-q.ensures c.requires.bounded c.requires.ranged c.args.cpu.present g }

pub returns : goal.returns
returns c = charged_held _ _ _ c.load_block-b.ensures _ c.index-x.ensures _ c.load-q.ensures c.if-b.false c.charge_context.ensures
