use Rattle.priority_trial.proofs.Trying.{copied, copy_image, block_inside, full_fails, ready_to_switch, switch_tells}
use native.Mathlib.Omega.{arith}
use borrow.Author.Rules.{rules}
use Rattle.priority_trial.proofs.works.Goals as goal

-- src/lib.rt:48:9
pub put-requires : goal.put-requires
put-requires c = record { image = copy_image _ c.requires.ready _ c.copy.ensures (search rules); bounded = (c.requires.ready.below, c.requires.copy_len.1) }

-- src/lib.rt:49:9
pub returns-then-not-put : goal.returns-then-not-put
returns-then-not-put c = full_fails _ c.requires.ready _ c.requires.copy_len.1 _ _ _ (copied _ c.requires.ready _ c.copy.ensures (search rules)) c.put.ensures c.if-not-put.true

-- src/lib.rt:51:9
pub switch-a-requires : goal.switch-a-requires
switch-a-requires c = ready_to_switch _ c.requires.ready _ c.requires.copy_len.1 _ _ _ (copied _ c.requires.ready _ c.copy.ensures (search rules)) c.put.ensures c.if-not-put.false

-- src/lib.rt:52:5
pub in_charge_after-requires : goal.in_charge_after-requires
in_charge_after-requires c = ((block_inside _ c.requires.ready).0, (block_inside _ c.requires.ready).1, omega (arith, (block_inside _ c.requires.ready).2, c.requires.copy_len.0))

-- src/lib.rt:41:1
pub returns : goal.returns
returns c = switch_tells _ c.requires.ready _ c.requires.copy_len.1 _ _ _ (copied _ c.requires.ready _ c.copy.ensures (search rules)) c.put.ensures c.if-not-put.false _ _ c.word.ensures _ c.switch-a.ensures c.in_charge_after.ensures
