use native.Mathlib.Omega.{arith}
use Rattle.cue_board.proofs.Woken.{cue_stays, cue_goes}
use Rattle.cue_board.proofs.hand_out.Goals as goal

pub returns-then-woken-ne0 : goal.returns-then-woken-ne0
returns-then-woken-ne0 c = cue_stays _ _ _ _ _ _ _ _ _ c.writer_at-writer.ensures c.ronthuyal_unblock_context-woken.ensures.image_after _ c.no_cue.ensures (λ z. omega (arith, c.if-woken-ne0.true, z))

pub returns : goal.returns
returns c = cue_goes _ _ _ _ _ _ _ _ _ c.writer_at-writer.ensures c.ronthuyal_unblock_context-woken.ensures.image_after _ _ _ _ _ _ (omega (arith, c.if-woken-ne0.false)) c.word-2.ensures c.start_at-start.ensures c.length_at-first_length.ensures c.length_at-second_length.ensures c.word.ensures c.put_number.ensures
