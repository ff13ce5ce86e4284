use Rattle.select.proofs.clean_up.lightened.Goals as goal

pub returns : goal.returns
returns c = rw (c.word-length.ensures, c.saturating_sub-left.ensures)
