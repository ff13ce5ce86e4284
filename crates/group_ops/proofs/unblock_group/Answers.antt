use mathlib.Core.Path.{refl}
use Rattle.refusal.proofs.Numbered.{number_some}
use Rattle.context_ops.proofs.Resolved.{present_below}
use Rattle.group_ops.proofs.Naming.{all_below}
use Rattle.group_ops.proofs.Reaching.{absent_group, refused_group, woken_group, with_room}
use Rattle.group_ops.proofs.Roomy.{count_small, roomy}
use Rattle.group_ops.proofs.unblock_group.Goals as goal

pub returns-in_default : goal.returns-in_default
returns-in_default c = λ M e o. absent_group _ M _ _ _ (c.get_percpu_block.ensures M e o) c.in_default.is c.refused.ensures

pub returns-in-Err : goal.returns-in-Err
returns-in-Err c = λ M e o. refused_group _ M _ _ _ (c.get_percpu_block.ensures M e o) _ c.in-Some.is _ (c.in-Err.ensures M e o) (number_some _) c.refused-in-Err.ensures

pub has_room-requires : goal.has_room-requires
has_room-requires c = record { image = c.requires; count_bound = rw c.count.ensures (count_small _) }

pub invariant_of-unblock_each : goal.invariant_of-unblock_each
invariant_of-unblock_each c = record { present = present_below c.requires _ _ _ c.get_percpu_block.ensures c.in-Some.is }

pub unblock_each-requires : goal.unblock_each-requires
unblock_each-requires c = record { image = c.requires; all = all_below c.requires _ _ _ c.in_default-check_names.ensures refl }

pub returns-then-has_room : goal.returns-then-has_room
returns-then-has_room c = λ M e o. woken_group _ M _ _ _ (c.get_percpu_block.ensures M e o) _ c.in-Some.is _ (c.in_default-check_names.ensures M e o) refl (with_room _ (c.unblock_each.ensures M e o) (roomy _ _ _ M c.count.ensures (c.has_room.ensures M e o c.if-has_room.true)))

pub invariant_of-with_copy : goal.invariant_of-with_copy
invariant_of-with_copy c = record { present = present_below c.requires _ _ _ c.get_percpu_block.ensures c.in-Some.is }

pub with_copy-requires : goal.with_copy-requires
with_copy-requires c = record { image = c.requires; all = all_below c.requires _ _ _ c.in_default-check_names.ensures refl }

pub returns : goal.returns
returns c = λ M e o. woken_group _ M _ _ _ (c.get_percpu_block.ensures M e o) _ c.in-Some.is _ (c.in_default-check_names.ensures M e o) refl (c.with_copy.ensures M e o)
