use lib.ListN.{length-set}
use Rattle.slots.specs.Slots.{put_lengths}
use native.Mathlib.Omega.{arith}
use Rattle.slots.proofs.put_lengths.Goals as goal

pub bounds-b-next : goal.bounds-b-next
bounds-b-next c = simp length-set (omega arith)

pub returns : goal.returns
unfolding put_lengths
returns c = rw (c.length_place-at.ensures, c.length_place-next.ensures)
