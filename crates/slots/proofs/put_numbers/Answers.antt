use Rattle.slots.specs.Slots.{put_numbers}
use Rattle.slots.proofs.put_numbers.Goals as goal

pub returns : goal.returns
unfolding put_numbers
returns c = rw (c.put_number-2.ensures, c.put_number.ensures, c.start_place.ensures, c.writer_place.ensures)
