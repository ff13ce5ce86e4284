-- `schedule::selecting::select_next_context` meets its contract. Assumes nothing.
use Rattle.std.proofs.lemmas.Result.{err_from_is_err_and}
use borrow.Author.Rules.{rules}
use mathlib.Core.Path.{refl}
use Rattle.schedule.proofs.Picked.{charged_full, charged_then, charged_ranged}
use Rattle.schedule.proofs.selecting.select_next_context.Goals as goal

pub returns-in_err-charge_holder : goal.returns-in_err-charge_holder
returns-in_err-charge_holder c = let p = err_from_is_err_and c.from_residual.result c.from_residual.ensures.1 in rw p.1 (record { part = charged_full c.args.time c.args.spent c.in_err-charge_holder.ensures; named_below = search rules })

pub selected-requires : goal.selected-requires
selected-requires c = record { image = c.in_ok-charge_holder.ensures.image refl; bounded = c.requires.bounded; ranged = charged_ranged c.args.spent c.args.cpu.present c.requires.bounded c.in_ok-charge_holder.ensures c.requires.ranged }

pub returns : goal.returns
returns c = record { part = charged_then c.args.time c.args.spent c.args.cpu.present c.in_ok-charge_holder.ensures c.selected.ensures.part; named_below = c.selected.ensures.named_below }
