-- `schedule::selecting::selected` meets its contract. Assumes nothing.
use Rattle.std.proofs.lemmas.Result.{err_from_is_err_and}
use borrow.Author.Rules.{rules}
use mathlib.Core.Path.{refl}
use native.Mathlib.Omega.{arith}
use Rattle.schedule.proofs.Picked.{selected_unchosen, selected_full, selected_room, selected_named, selected_ranged}
use Rattle.schedule.proofs.selecting.selected.Goals as goal

pub returns-in_err-won : goal.returns-in_err-won
returns-in_err-won c = let p = err_from_is_err_and c.from_residual.result c.from_residual.ensures.1 in rw p.1 (record { part = selected_unchosen c.args.time c.args.spent c.in_err-won.ensures.part; named_below = search rules })

pub settle-requires : goal.settle-requires
settle-requires c = record { image = c.in_ok-won.ensures.part.image refl; bounded = (omega (arith, c.requires.bounded)); ranged = c.in_ok-won.ensures.named_below.1 }

pub returns-in_err-settle : goal.returns-in_err-settle
returns-in_err-settle c = let p = err_from_is_err_and c.from_residual-in_err-settle.result c.from_residual-in_err-settle.ensures.1 in rw p.1 (record { part = selected_full c.args.time c.args.spent _ _ c.args.cpu.present c.in_ok-won.ensures.part c.prev_runnable-runs.ensures c.is_some.ensures c.in_err-settle.ensures; named_below = search rules })

pub next_context-context-requires : goal.next_context-context-requires
next_context-context-requires c = record { image = c.in_ok-settle.ensures.image refl }

pub returns : goal.returns
returns c = let h = c.args.cpu.present in let t = c.in_ok-won.ensures.part in let u = c.in_ok-settle.ensures in let r = c.next_context-context.ensures in record { part = selected_room c.args.time c.args.spent _ _ h t c.prev_runnable-runs.ensures c.is_some.ensures u r; named_below = (selected_named c.args.time c.args.spent _ _ h t c.prev_runnable-runs.ensures c.is_some.ensures u r c.in_ok-won.ensures.named_below.0, selected_ranged c.args.time c.args.spent _ _ h t c.prev_runnable-runs.ensures c.is_some.ensures u r (omega (arith, c.requires.bounded)) c.in_ok-won.ensures.named_below.1) }
