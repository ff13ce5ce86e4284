use Rattle.machine.specs.Machine.{no_context}
use Rattle.plain_lists.proofs.Filling.{Filled}
use Rattle.plain_words.proofs.Reading.{IsContext}
use Rattle.plain_words.proofs.load_contexts.Given as goal

abbrev pub invariant-loop-x : goal.invariant-loop-x
invariant-loop-x l = Filled no_context (IsContext l.c l.n l.m) 64 l.contexts l.x
