use Rattle.decide.proofs.Shown.{line_of}
use Rattle.decide.proofs.output.of_words.Goals as goal

pub returns : goal.returns
returns c = line_of _ _ _ _ c.of_call.ensures c.load_image.ensures c.load_head.ensures
