use Rattle.cue_line.proofs.Lined.{last_start}
use Rattle.cue_line.specs.Line.{all_rows_fit, starts_rise}
use Rattle.board.specs.Board.{cue_at}
use Rattle.columns.specs.Common.{tabulate}
use mathlib.Core.Bool.{true}
use mathlib.Core.Path.{◌≡◌}
use Rattle.cue_line.proofs.check_stored.Given as goal

abbrev pub invariant-loop-i : goal.invariant-loop-i
invariant-loop-i l =
    (all_rows_fit (tabulate l.i (cue_at l.k l.b)) ≡ true) × (l.rise ≡ starts_rise (tabulate l.i (cue_at l.k l.b))) × (l.last ≡ last_start (tabulate l.i (cue_at l.k l.b)))
