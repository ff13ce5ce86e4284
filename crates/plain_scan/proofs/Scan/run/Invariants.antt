use Rattle.plain_scan.specs.Scanned.{scan_of}
use Rattle.plain_scan.proofs.Running.{Running}
use Rattle.plain_scan.proofs.Scan.run.Given as goal

abbrev pub invariant-loop-e : goal.invariant-loop-e
invariant-loop-e l = Running l.n l.t (scan_of l.n l.initial.s) l.e-items l.s l.e-index
