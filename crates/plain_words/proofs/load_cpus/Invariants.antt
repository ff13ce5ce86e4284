use Rattle.columns.specs.Common.{All}
use Rattle.plain_state.specs.States.{CpuSound}
use Rattle.plain_lists.proofs.Filling.{Filled}
use Rattle.plain_words.proofs.Reading.{IsCpu}
use Rattle.plain_words.proofs.Storing.{nobody}
use Rattle.plain_words.proofs.load_cpus.Given as goal

abbrev pub invariant-loop-k : goal.invariant-loop-k
invariant-loop-k l = Filled nobody (IsCpu l.c l.n l.m) 4 l.cpus l.k × All CpuSound l.cpus
