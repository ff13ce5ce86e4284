use Rattle.plain_candidates.proofs.Gathered.{Gathering}
use Rattle.plain_candidates.specs.Stolen.{locked_of}
use Rattle.plain_state.specs.States.{state_in}
use Rattle.plain_candidates.proofs.candidates_sized.Given as goal

abbrev pub invariant-loop-e : goal.invariant-loop-e
invariant-loop-e l = Gathering l.t.cpu (locked_of l.t.locked) (state_in l.n l.s).contexts l.t.winner l.t.want l.n l.e-items l.got l.e-index
