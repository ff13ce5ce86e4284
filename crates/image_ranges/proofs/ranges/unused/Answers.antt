-- `ranges::unused` meets its contract. Assumes nothing.
use mathlib.Core.Path.{◌∙◌}
use Rattle.image_ranges.proofs.Zeros.{rest_unused}
use Rattle.image_ranges.proofs.ranges.unused.Goals as goal

pub returns : goal.returns
returns c = c.zero_words.ensures ∙ rest_unused c.args.a.now c.args.k c.requires.0 c.requires.1
