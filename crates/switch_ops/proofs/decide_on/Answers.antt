-- `switch_ops::decide_on` meets its contract. Assumes nothing.
use mathlib.Core.Path.{refl}
use Rattle.refusal.proofs.Numbered.{number_some}
use Rattle.switch_ops.specs.Reply.{call_of}
use Rattle.switch_ops.proofs.Answered.{refused_on, accepted_on, certain_replies, in_time}
use Rattle.switch_ops.proofs.Counted.{certain}
use Rattle.switch_ops.proofs.decide_on.Goals as goal

pub returns-in-Err : goal.returns-in-Err
returns-in-Err c = λ M e o. refused_on _ M _ _ _ _ (c.in-Err.ensures M e o) (number_some _) c.refused.ensures

pub attempt-requires : goal.attempt-requires
attempt-requires c = record { image = c.requires.image; bounded = c.requires.bounded; target_below = c.requires.target_below; ranged = c.requires.ranged; k_bound = λ M e o. in_time (call_of c.args.d) M _ _ _ (c.in_default.ensures M e o) refl }

pub returns-then-has_room : goal.returns-then-has_room
returns-then-has_room c = λ M e o. accepted_on _ M _ _ _ _ (c.in_default.ensures M e o) refl (certain_replies _ _ (c.attempt.ensures M e o) (certain c.args.cpu.k c.args.time (call_of c.args.d) M o c.args.cpu.present (c.has_room.ensures M e o) c.if-has_room.true))

pub with_copy-requires : goal.with_copy-requires
with_copy-requires c = record { image = c.requires.image; bounded = c.requires.bounded; target_below = c.requires.target_below; ranged = c.requires.ranged; k_bound = λ M e o. in_time (call_of c.args.d) M _ _ _ (c.in_default.ensures M e o) refl }

pub returns : goal.returns
returns c = λ M e o. accepted_on _ M _ _ _ _ (c.in_default.ensures M e o) refl (c.with_copy.ensures M e o)
