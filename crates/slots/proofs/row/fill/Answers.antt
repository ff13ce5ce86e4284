use Rattle.std.proofs.Common.{rules}
use Rattle.board.specs.Board.{padded}
use Rattle.slots.proofs.row.fill.Goals as goal

pub returns : goal.returns
unfolding padded
returns c = search rules
