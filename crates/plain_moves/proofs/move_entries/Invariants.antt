use Rattle.plain_moves.proofs.Going.{Going}
use Rattle.plain_moves.specs.Moves.{moving_in}
use Rattle.plain_moves.proofs.move_entries.Given as goal

abbrev pub invariant-loop-e : goal.invariant-loop-e
invariant-loop-e l = Going l.n l.runs (moving_in l.n l.initial.out) l.e-items l.out l.e-index
