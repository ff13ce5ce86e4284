use mathlib.Core.Path.{◌≡◌}
use Rattle.machine.specs.Machine.{Machine}
use Rattle.machine.specs.Encode.{encode}
use Rattle.machine.specs.Shape.{Fits}
use Rattle.refusal.specs.Number.{refusal_of}
use Rattle.group_ops.proofs.Naming.{Comes}
use Rattle.group_ops.proofs.check_names.Given as goal

abbrev pub invariant-loop-x : goal.invariant-loop-x
invariant-loop-x l = (M : Machine) → l.m ≡ encode M → Fits l.c l.n M → Comes M l.cpu l.mask (refusal_of l.first) l.x-iterator.rest
