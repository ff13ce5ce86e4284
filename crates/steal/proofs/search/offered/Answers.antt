use Rattle.model.specs.State.{state_of}
use Rattle.steal.proofs.Searching.{offers_all, offers_none}
use native.Mathlib.Omega.{arith}
use Rattle.steal.proofs.search.offered.Goals as goal

pub returns-then-can_steal_from : goal.returns-then-can_steal_from
returns-then-can_steal_from c = (omega (arith, c.queue_len.ensures.0), λ M e o. offers_all (state_of _ M) _ (c.can_steal_from.ensures M e o) c.if-can_steal_from.true (c.queue_len.ensures.2 M e o))

pub returns : goal.returns
returns c = (omega arith, λ M e o. offers_none (state_of _ M) _ (c.can_steal_from.ensures M e o) c.if-can_steal_from.false)
