use mathlib.Core.Path.{ap, ◌∙◌}
use mathlib.Core.Bool.{not}
use lib.Dec.{eqb}
use Prim.Native.Nat.{ℕ}
use native.Mathlib.Omega.{arith}
use Rattle.columns.specs.Common.{every}
use Rattle.columns.proofs.Among.{none_among}
use Rattle.percpu.specs.Places.{entry_context_ref_column}
use Rattle.candidate.specs.Words.{no_word_queued}
use Rattle.candidate.proofs.Reading.{differs}
use Rattle.candidate.proofs.not_queued.Goals as goal

pub returns : goal.returns
unfolding no_word_queued
returns c =
    ap not c.contains.ensures.value
    ∙ none_among (λ (y : ℕ). eqb y c.args.x) c.args.b.now entry_context_ref_column c.index-end.result (omega (arith, c.index-end.ensures, c.requires.0, c.requires.1))
    ∙ ap (every (differs c.args.x c.args.b.now)) c.index-end.ensures
