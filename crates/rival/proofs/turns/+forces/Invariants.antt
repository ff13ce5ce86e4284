-- What the four that call one another keep, and what falls from one to the next. Assumes nothing.
use Rattle.std.proofs.Common.{◌-◌, ◌*◌, true, false}
use Rattle.rival.specs.Game.{forces_after}
use Rattle.rival.specs.Reached.{choices, choices_against}
use Rattle.rival.proofs.Choices.{Before}
use Rattle.rival.proofs.turns.+forces.Given as goal

abbrev pub decreases-forces : goal.decreases-forces
decreases-forces l = 3 * l.rounds

abbrev pub decreases-rival_turn : goal.decreases-rival_turn
decreases-rival_turn l = 3 * l.rounds - 1

abbrev pub decreases-writer_turn : goal.decreases-writer_turn
decreases-writer_turn l = 3 * l.rounds - 1

abbrev pub decreases-forces_after : goal.decreases-forces_after
decreases-forces_after l = 3 * l.rounds - 2

abbrev pub invariant-rival_turn-loop-choice : goal.invariant-rival_turn-loop-choice
invariant-rival_turn-loop-choice l = Before (forces_after l.p l.rounds l.time l.m l.p.rival) true (choices_against l.p l.m) l.choice-index

abbrev pub invariant-writer_turn-loop-choice : goal.invariant-writer_turn-loop-choice
invariant-writer_turn-loop-choice l = Before (forces_after l.p l.rounds l.time l.m l.p.writer) false choices l.choice-index
