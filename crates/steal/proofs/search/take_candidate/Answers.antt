use Rattle.steal_judge.specs.Names.{entries_of}
use Rattle.steal.proofs.Searching.{taken_is, left_is, all_with}
use Rattle.steal.proofs.search.take_candidate.Goals as goal

pub returns-then-can_be_stolen : goal.returns-then-can_be_stolen
returns-then-can_be_stolen c = record { all = all_with _ (entries_of c.args.got) _ c.requires.want_bound.2 c.requires.bounded c.with.ensures; result_value = λ M e o. taken_is _ _ M.contexts _ _ _ _ c.requires.want_bound.1 (c.can_be_stolen.ensures M e o) c.if-can_be_stolen.true c.with.ensures }

pub returns : goal.returns
returns c = record { all = c.requires.want_bound.2; result_value = λ M e o. left_is _ _ M.contexts _ _ _ _ c.requires.want_bound.1 (c.can_be_stolen.ensures M e o) c.if-can_be_stolen.false }
