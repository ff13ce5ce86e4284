use Rattle.plain_candidates.proofs.Gathered.{gathering, gathered}
use Rattle.plain_candidates.proofs.candidates_sized.Goals as goal

pub loop-e-init : goal.loop-e-init
loop-e-init c = gathering _ _ _ _ _ _ c.args.q _ _ _ c.requires.2 c.by_rank-turns.ensures c.as_slice_sized-e-items.ensures c.cleared-got.ensures.stands c.cleared-got.ensures.len_value

pub returns : goal.returns
returns c = gathered _ _ _ _ _ _ c.args.q _ _ _ _ c.loop-e.invariant c.loop-e-test.false c.by_rank-turns.ensures c.as_slice_sized-e-items.ensures
