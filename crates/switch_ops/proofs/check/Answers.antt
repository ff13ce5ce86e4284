use mathlib.Core.Logic.{inl, inr}
use Rattle.switch_ops.proofs.check.Goals as goal

pub check_direct-requires : goal.check_direct-requires
check_direct-requires c = record { image = c.requires.image; bounded = (c.requires.target_below _ c.in-DirectSwitchTo.is) }

pub returns-in-Tick : goal.returns-in-Tick
returns-in-Tick c = λ M e o. elim c.in-Tick.is [ inl t ↦ rw t (c.check_decision.ensures M e o) | inr t ↦ rw t (c.check_decision.ensures M e o) ]

pub returns-in-DirectSwitchTo : goal.returns-in-DirectSwitchTo
returns-in-DirectSwitchTo c = λ M e o. rw c.in-DirectSwitchTo.is (c.check_direct.ensures M e o)
