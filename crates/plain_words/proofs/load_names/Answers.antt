use Rattle.std.proofs.Common.{rules}
use Rattle.plain_words.proofs.Reading.{names_read}
use Rattle.plain_words.proofs.load_names.Goals as goal

pub returns : goal.returns
returns c = names_read _ _ _ (search rules) c.requires.0 (search rules)
