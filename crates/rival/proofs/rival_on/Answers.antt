use mathlib.Core.Path.{ap, sym, ◌∙◌}
use Rattle.refusal.specs.Number.{numbered}
use Rattle.rival.specs.Game.{game_of}
use Rattle.rival.proofs.Entering.{inside}
use Rattle.rival.proofs.rival_on.Goals as goal

pub play-requires : goal.play-requires
play-requires c = inside _ _ _ _ _ _ c.requires.image (λ M e f. sym (ap numbered c.in-Ok.is) ∙ c.parties.ensures M e f) c.requires.time_le_max_number (sym c.if-is_game.true ∙ c.is_game.ensures)

pub returns-in-Err : goal.returns-in-Err
unfolding game_of
returns-in-Err c = λ M e f. rw (← c.parties.ensures M e f, c.in-Err.is) c.refused.ensures

pub returns-in-Ok : goal.returns-in-Ok
unfolding game_of
returns-in-Ok c = λ M e f. rw (← c.parties.ensures M e f, c.in-Ok.is, ← c.is_game.ensures, c.if-is_game.true) c.play.ensures

pub returns-in-Ok-2 : goal.returns-in-Ok-2
unfolding game_of
returns-in-Ok-2 c = λ M e f. rw (← c.parties.ensures M e f, c.in-Ok.is, ← c.is_game.ensures, c.if-is_game.false) c.refused-in-Ok-2.ensures
