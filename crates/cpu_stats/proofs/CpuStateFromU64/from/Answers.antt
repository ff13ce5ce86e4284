-- The state of a word. Assumes nothing.
use mathlib.Core.Path.{sym}
use native.Mathlib.Omega.{arith}
use Rattle.cpu_stats.proofs.States.{from_two}
use Rattle.cpu_stats.specs.State.{state_of}
use Rattle.cpu_stats.proofs.CpuStateFromU64.from.Goals as goal

pub returns-in-0 : goal.returns-in-0
unfolding state_of
returns-in-0 c = rw c.in-0.is

pub returns-in-1 : goal.returns-in-1
unfolding state_of
returns-in-1 c = rw c.in-1.is

pub returns-in_default : goal.returns-in_default
returns-in_default c = sym (from_two _ (omega arith))
