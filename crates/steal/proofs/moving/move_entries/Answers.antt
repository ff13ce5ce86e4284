use Rattle.steal.proofs.Victims.{moves_none}
use Rattle.steal.proofs.AfterMove.{moved_nothing, moved_single, moved_pair, fits_single, fits_pair}
use Rattle.steal.proofs.Movable.{movable_first}
use Rattle.steal.proofs.moving.move_entries.Goals as goal

pub returns-in-Nothing : goal.returns-in-Nothing
returns-in-Nothing c = moved_nothing c.args.theft.runs _ c.in-Nothing.is (moves_none c.requires.image)

pub move_entry-requires : goal.move_entry-requires
move_entry-requires c = record { image = c.requires.image; bounded = (fits_single c.in-Single.is c.requires.bounded); movable = movable_first c.args.theft.cpu.present c.requires.ranged }

pub returns-in-Single : goal.returns-in-Single
returns-in-Single c = moved_single c.args.theft.runs _ c.in-Single.is c.move_entry.ensures

pub move_two-requires : goal.move_two-requires
move_two-requires c = record { image = c.requires.image; bounded = ((fits_pair c.in-Pair.is c.requires.bounded).0, (fits_pair c.in-Pair.is c.requires.bounded).1); ranged = c.requires.ranged }

pub returns-in-Pair : goal.returns-in-Pair
returns-in-Pair c = moved_pair c.args.theft.runs _ c.in-Pair.is c.move_two.ensures
