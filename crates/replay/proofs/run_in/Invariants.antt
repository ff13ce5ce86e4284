use Rattle.std.specs.Prelude.{◌≤◌, length}
use Rattle.replay.proofs.run_in.Given as goal

abbrev pub invariant-loop : goal.invariant-loop
invariant-loop g l = l.have ≤ length l.text
