use Rattle.select_judge.proofs.choice.without_entry.Goals as goal

pub returns-in-None-clause-by_index : goal.returns-in-None-clause-by_index
returns-in-None-clause-by_index c = λ n l. c.alone.ensures.by_index n
