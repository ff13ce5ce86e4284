use Rattle.candidate.specs.Candidate.{not_on}
use Rattle.machine.specs.Shape.{Fits}
use Rattle.machine.specs.Encode.{encode}
use Rattle.machine.specs.Machine.{Machine, cpu_at}
use Rattle.columns.specs.Common.{every}
use Prim.Native.Nat.{ℕ}
use mathlib.Core.Bool.{true}
use mathlib.Core.Path.{◌≡◌}
use Rattle.candidate.proofs.on_none.Given as goal

abbrev pub invariant-loop-k : goal.invariant-loop-k
invariant-loop-k l = (M : Machine) → l.m ≡ encode M → Fits l.c l.n M → every (λ (j : ℕ). not_on l.x (cpu_at M j)) l.k ≡ true
