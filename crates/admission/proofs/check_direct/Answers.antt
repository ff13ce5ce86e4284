use Rattle.admission.proofs.check_direct.Goals as goal

pub load-q-requires : goal.load-q-requires
load-q-requires c = record { image = c.requires.image; x_lt_n = c.requires.bounded }

pub load_block-p-requires : goal.load_block-p-requires
load_block-p-requires c = record { image = c.requires.image }
