use mathlib.Core.Path.{refl}
use native.Mathlib.Omega.{arith}
use Rattle.refusal.proofs.Numbered.{number_some}
use Rattle.group_ops.specs.Group.{name_refusal}
use Rattle.group_ops.proofs.Naming.{first_none, first_kept, first_less, first_more}
use Rattle.group_ops.proofs.first_check.Goals as goal

pub returns-in_default : goal.returns-in_default
unfolding name_refusal
returns-in_default c = first_kept _ _ (rw c.in_default.is refl)

pub returns-then-from : goal.returns-then-from
unfolding name_refusal
returns-then-from c = rw (c.in-Err-first.is, c.in-Err.is) (first_less _ _ (number_some _) (number_some _) (omega arith))

pub returns-else-from : goal.returns-else-from
unfolding name_refusal
returns-else-from c = rw (c.in-Err-first.is, c.in-Err.is) (first_more _ _ (number_some _) (number_some _) (omega arith))

pub returns-in_default-first : goal.returns-in_default-first
unfolding name_refusal
returns-in_default-first c = rw (c.in_default-first.is, c.in-Err.is) (first_none _ _ refl)
