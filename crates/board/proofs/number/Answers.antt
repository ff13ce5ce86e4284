use Rattle.board.proofs.Lent.{number_is}
use Rattle.board.proofs.number.Goals as goal

pub returns : goal.returns
returns c = number_is _ _ c.from_le_bytes.ensures
