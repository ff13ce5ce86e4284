-- `cpu_set::rest` meets its contract. Assumes nothing.
use native.Mathlib.Omega.{arith}
use Rattle.cpu_set.proofs.Members.{bit_low, rest_is}
use Rattle.cpu_set.proofs.rest.Goals as goal

pub overflow_sub-result : goal.overflow_sub-result
overflow_sub-result c = omega (arith, bit_low _ _ c.next.ensures.0 c.next.ensures.1 c.requires (omega arith))

pub returns : goal.returns
returns c = rest_is _ _ c.next.ensures.0 c.next.ensures.1 c.requires (omega arith)
