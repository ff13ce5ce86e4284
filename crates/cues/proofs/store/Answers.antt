use Rattle.cues.proofs.store.Goals as goal

pub returns : goal.returns
returns c = rw (c.put_number.ensures, c.put_cue.ensures, c.word.ensures)
