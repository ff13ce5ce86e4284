use Rattle.slots.specs.Slots.{put_cue}
use Rattle.board.specs.Board.{offered}
use Rattle.slots.proofs.put_cue.Goals as goal

pub returns : goal.returns
unfolding put_cue offered
returns c = rw (c.put_rows.ensures, c.put_lengths.ensures, c.put_numbers.ensures)
