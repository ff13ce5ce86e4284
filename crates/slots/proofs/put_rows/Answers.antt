use Rattle.slots.specs.Slots.{put_rows}
use Rattle.slots.proofs.put_rows.Goals as goal

pub returns : goal.returns
unfolding put_rows
returns c = rw (c.put_row-2.ensures, c.put_row.ensures, c.row_place.ensures, c.row_place-2.ensures)
