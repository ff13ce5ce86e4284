use mathlib.Core.Path.{refl}
use Rattle.percpu.specs.Layout.{entry_at}
use Rattle.plain_words.proofs.entry_at.Goals as goal

-- src/lib.rt:28:1
pub returns : goal.returns
unfolding entry_at
returns c = refl
