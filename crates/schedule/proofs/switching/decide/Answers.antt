-- `schedule::switching::decide` meets its contract. Assumes nothing.
use Rattle.std.proofs.lemmas.Result.{err_from_is_err_and}
use mathlib.Core.Path.{refl}
use Rattle.schedule.proofs.Inner.{decided_full, decided}
use Rattle.schedule.proofs.switching.decide.Goals as goal

pub returns-in_err-next : goal.returns-in_err-next
returns-in_err-next c = let p = err_from_is_err_and c.from_residual.result c.from_residual.ensures.1 in rw p.1 (decided_full c.args.time c.in_err-next.ensures.part)

pub switch_as-requires : goal.switch_as-requires
switch_as-requires c = record { image = c.in_ok-next.ensures.part.image refl; bounded = (c.requires.bounded, c.in_ok-next.ensures.named_below.0); ranged = c.in_ok-next.ensures.named_below.1 }

pub returns : goal.returns
returns c = decided c.args.time refl c.args.cpu.present c.in_ok-next.ensures.part c.switch_as.ensures
