use Rattle.std.proofs.Common.{ap, ◌∙◌}
use Rattle.cue_board.specs.Next.{no_cue}
use Rattle.cue_board.proofs.Woken.{next_refused, next_none, slot_right, next_handed}
use Rattle.cue_board.proofs.cue_board_next.Goals as goal

pub hand_out-requires : goal.hand_out-requires
hand_out-requires c = slot_right _ _ _ (rw c.in-Ok-Some.field-0-is at c.in-Ok-Some.ensures)

pub returns-in-Err : goal.returns-in-Err
returns-in-Err c = next_refused _ _ _ _ _ _ c.in-Err.ensures (c.no_cue.ensures ∙ ap no_cue c.from.ensures)

pub returns-in-Ok-None : goal.returns-in-Ok-None
returns-in-Ok-None c = next_none _ _ _ _ _ (rw c.in-Ok-None.field-0-is at c.in-Ok-None.ensures) c.no_cue-in-Ok-None.ensures

pub returns-in-Ok-Some : goal.returns-in-Ok-Some
returns-in-Ok-Some c = next_handed _ _ _ _ _ _ (rw c.in-Ok-Some.field-0-is at c.in-Ok-Some.ensures) c.hand_out.ensures
