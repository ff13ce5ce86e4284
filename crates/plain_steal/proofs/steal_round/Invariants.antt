use Rattle.plain_steal.proofs.Round.{Rounding}
use Rattle.plain_steal.specs.Stealing.{stealing_in}
use Rattle.plain_candidates.specs.Stolen.{locked_of}
use Rattle.plain_steal.proofs.steal_round.Given as goal

abbrev pub invariant-loop-i : goal.invariant-loop-i
invariant-loop-i l = Rounding l.by.k l.theft.runs (locked_of l.theft.locked) l.by.n l.by.c (stealing_in l.by.n l.by.c l.initial.out) l.out l.i
