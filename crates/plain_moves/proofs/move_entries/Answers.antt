use Rattle.plain_moves.proofs.Going.{goes_on}
use Rattle.plain_moves.proofs.move_entries.Goals as goal

pub loop-e-preserved : goal.loop-e-preserved
loop-e-preserved c = goes_on _ _ _ _ _ _ c.loop-e.invariant c.loop-e-test.true _ c.move_entry-out.ensures
