use Rattle.plain_turn.proofs.Paying.{idle_pays, other_pays, charge_stays}
use Rattle.plain_state.proofs.Tracking.{tracks_kept}
use Rattle.plain_model.specs.Turn.{charge_holder}
use Rattle.plain_turn.proofs.holder.charge_holder.Goals.{then-s-via-then-s, then-s-via-else-s+then-block}
use Rattle.plain_turn.proofs.holder.charge_holder.Goals as goal

pub returns-then-s : goal.returns-then-s
returns-then-s c =
    elim c.then-s.branch [
      | then-s-via-then-s w ↦ tracks_kept (charge_holder c.args.spent) (charge_stays c.args.spent) c.requires.sound w.if-s.true
      | then-s-via-else-s+then-block w ↦ idle_pays c.args.n c.args.s c.args.spent c.requires.sound w.if-block.true
    ]

pub returns : goal.returns
returns c = other_pays c.args.n c.args.s c.args.spent c.if-block.false c.charge.ensures
