use Rattle.rival.proofs.Entering.{game_writer, game_rival}
use Rattle.rival.proofs.play.Goals as goal

pub returns-then-in_charge-word : goal.returns-then-in_charge-word
returns-then-in_charge-word c =
    rw (c.is_some.ensures, c.number_of.ensures)
    (game_writer c.args.p _ _ c.args.m.now _ _ c.in_charge.ensures c.word.ensures c.requires.in_time.1 _ c.if-in_charge-word.true c.writer_turn-choice.ensures)

pub returns : goal.returns
returns c = game_rival c.args.p _ _ c.args.m.now _ _ c.in_charge.ensures c.word.ensures c.requires.in_time.1 _ c.if-in_charge-word.false c.rival_turn.ensures
