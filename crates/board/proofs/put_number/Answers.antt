use Rattle.board.proofs.Lent.{put_number_is}
use Rattle.board.proofs.put_number.Goals as goal

pub returns : goal.returns
returns c = put_number_is _ _ _ c.to_le_bytes.ensures
