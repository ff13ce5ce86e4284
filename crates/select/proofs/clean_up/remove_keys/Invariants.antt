use lib.ListN.{take}
use mathlib.Core.Bool.{false}
use Rattle.model.specs.State.{State}
use Rattle.select.specs.Cleaning.{remove_keys}
use Rattle.stages.specs.Stage.{Staged}
use Rattle.select.proofs.clean_up.remove_keys.Given as goal

abbrev pub invariant-loop-key : goal.invariant-loop-key
invariant-loop-key l = Staged l.cpu.c l.cpu.n l.cpu.k l.initial.m l.m false (λ (s : State). remove_keys (take l.key-index l.keys) s)
