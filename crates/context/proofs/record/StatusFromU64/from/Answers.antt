use mathlib.Core.Path.{sym}
use native.Mathlib.Omega.{arith}
use Rattle.context.specs.Status.{status_of, status_of_rest}
use Rattle.context.proofs.record.StatusFromU64.from.Goals as goal

pub returns-in-0 : goal.returns-in-0
unfolding status_of
returns-in-0 c = rw c.in-0.is

pub returns-in-1 : goal.returns-in-1
unfolding status_of
returns-in-1 c = rw c.in-1.is

pub returns-in-2 : goal.returns-in-2
unfolding status_of
returns-in-2 c = rw c.in-2.is

pub returns-in-3 : goal.returns-in-3
unfolding status_of
returns-in-3 c = rw c.in-3.is

pub returns-in-4 : goal.returns-in-4
unfolding status_of
returns-in-4 c = rw c.in-4.is

pub returns-in_default : goal.returns-in_default
returns-in_default c = sym (status_of_rest _ (λ e. omega arith) (λ e. omega arith) (λ e. omega arith) (λ e. omega arith) (λ e. omega arith))
