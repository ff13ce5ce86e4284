-- `schedule::scheduling::schedule` meets its contract. Assumes nothing.
use Rattle.std.proofs.lemmas.Result.{err_from_is_err_and}
use borrow.Author.Rules.{rules}
use mathlib.Core.Path.{refl}
use Rattle.schedule.proofs.Scheduled.{schedule_unbegun, schedule_full, schedule_room}
use Rattle.schedule.proofs.scheduling.schedule.Goals as goal

pub returns-in_err-turn : goal.returns-in_err-turn
returns-in_err-turn c = let p = err_from_is_err_and c.from_residual.result c.from_residual.ensures.1 in rw p.1 (record { part = schedule_unbegun c.args.time c.in_err-turn.ensures.stage; named_below = search rules })

pub select_next_context-requires : goal.select_next_context-requires
select_next_context-requires c = record { image = c.in_ok-turn.ensures.stage.image refl; bounded = (c.in_ok-turn.ensures.ticks_le_max_ticks.0); ranged = c.in_ok-turn.ensures.ticks_le_max_ticks.1 }

pub returns-in_err-next : goal.returns-in_err-next
returns-in_err-next c = let p = err_from_is_err_and c.from_residual-in_err-next.result c.from_residual-in_err-next.ensures.1 in rw p.1 (record { part = schedule_full c.args.time c.args.cpu.present c.in_ok-turn.ensures.stage c.in_err-next.ensures.part; named_below = search rules })

pub hand_over-requires : goal.hand_over-requires
hand_over-requires c = record { image = c.in_ok-next.ensures.part.image refl; bounded = (c.requires.bounded, c.in_ok-next.ensures.named_below.0); ranged = c.in_ok-next.ensures.named_below.1 }

pub returns : goal.returns
returns c = record { part = schedule_room c.args.time c.args.cpu.present c.in_ok-turn.ensures.stage c.in_ok-next.ensures.part c.hand_over.ensures.staged; named_below = (c.in_ok-next.ensures.named_below.0, c.hand_over.ensures.ranged_2) }
