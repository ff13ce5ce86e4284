use Rattle.measure.proofs.Looking.{all_measured}
use Rattle.measure.proofs.measure.Goals as goal

-- src/lib.rt:104:1
pub returns : goal.returns
returns c = all_measured _ _ _ _ _ c.records-b.ensures c.blocks-2.ensures
