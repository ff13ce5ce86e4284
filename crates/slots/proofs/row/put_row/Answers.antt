use Rattle.slots.proofs.Rows.{put_row_is}
use Rattle.slots.proofs.row.put_row.Goals as goal

pub returns : goal.returns
returns c = put_row_is _ _ _ c.fill.ensures
