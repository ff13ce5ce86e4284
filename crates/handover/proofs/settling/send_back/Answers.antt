-- `handover::settling::send_back` meets its contract. Assumes nothing.
use Rattle.handover.proofs.Settled.{stopped_before, nobody_won}
use Rattle.handover.proofs.settling.send_back.Goals as goal
use Rattle.handover.proofs.settling.send_back.Goals.{else-won-via-then-won+else-runs, else-won-via-else-won}

pub returns : goal.returns
returns c =
    elim c.else-won.branch [
      | else-won-via-then-won+else-runs w ↦ stopped_before c.args.won c.args.runs w.if-won.true w.if-runs.false c.requires.image
      | else-won-via-else-won w ↦ nobody_won c.args.won c.args.runs w.if-won.false c.requires.image
    ]
