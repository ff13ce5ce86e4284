use Rattle.wakeup.proofs.Judged.{result_fits, served_staged}
use Rattle.wakeup.proofs.serve_one.Goals as goal

pub serve_as-requires : goal.serve_as-requires
serve_as-requires c = record { image = c.requires.image; bounded = (c.requires.bounded, result_fits _ _ _ c.load_block-b.ensures c.verdict-r.ensures c.requires.bounded _ c.requires.paced); paced = c.requires.paced }

pub returns : goal.returns
returns c = served_staged _ _ _ c.load_block-b.ensures c.verdict-r.ensures c.serve_as.ensures
