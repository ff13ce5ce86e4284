use Rattle.measure.specs.Measured.{Greatest}
use Rattle.measure.proofs.greatest.Given as goal

abbrev pub invariant-loop-word : goal.invariant-loop-word
invariant-loop-word l = Greatest l.words 0 l.word-index l.most l.top
