use Rattle.rounds.proofs.Playing.{tried_plays}
use Rattle.rounds.proofs.switched.Goals as goal

-- src/lib.rt:39:1
pub returns : goal.returns
returns c = tried_plays _ _ _ _ _ c.in_place.ensures
