use Rattle.std.specs.Prelude.{◌≡◌, ◌≤◌, length}
use Rattle.decide.specs.Input.{GivesOver}
use Rattle.decide.proofs.input.read_on.Given as goal

abbrev pub invariant-loop : goal.invariant-loop
invariant-loop g l = (length l.space ≡ length l.initial.space) × (l.over ≤ 7) × GivesOver (g.R.Read.remaining l.initial.reader) (g.R.Read.remaining l.reader) l.over
