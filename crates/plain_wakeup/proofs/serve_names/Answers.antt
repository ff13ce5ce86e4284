use Rattle.plain_wakeup.proofs.Going.{names_end, names_next}
use Rattle.plain_wakeup.proofs.serve_names.Goals as goal

pub loop-x-preserved : goal.loop-x-preserved
loop-x-preserved c = names_next _ _ c.loop-x.invariant c.loop-x-test.true _ c.serve_name-s.ensures

pub returns : goal.returns
returns c = rw (← c.as_slice_sized-x-items.ensures) (names_end _ _ c.loop-x.invariant c.loop-x-test.false)
