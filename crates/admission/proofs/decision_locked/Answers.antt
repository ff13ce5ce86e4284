use Rattle.stages.proofs.Reading.{block_fits}
use Rattle.admission.proofs.Refused.{locked}
use Rattle.admission.proofs.decision_locked.Goals as goal

pub load-current-requires : goal.load-current-requires
load-current-requires c = record { image = c.requires.image; x_lt_n = rw c.index.ensures (block_fits c.requires.image c.args.cpu.k c.args.cpu.present c.load_block-p.ensures).current }

pub load-sched-requires : goal.load-sched-requires
load-sched-requires c = record { image = c.requires.image; x_lt_n = rw c.index-2.ensures (block_fits c.requires.image c.args.cpu.k c.args.cpu.present c.load_block-p.ensures).sched }

pub load-idle-requires : goal.load-idle-requires
load-idle-requires c = record { image = c.requires.image; x_lt_n = rw c.index-3.ensures (block_fits c.requires.image c.args.cpu.k c.args.cpu.present c.load_block-p.ensures).idle }

pub returns : goal.returns
returns c = λ M e o. locked c.args.cpu.k c.load_block-p.ensures c.index.ensures c.index-2.ensures c.index-3.ensures c.load-current.ensures c.load-sched.ensures c.load-idle.ensures c.is_locked.ensures M e o
