use Rattle.std.proofs.lemmas.Result.{err_from_is_err_and}
use Rattle.steal.proofs.AfterMove.{first_in, later_in, later_full}
use native.Mathlib.Omega.{arith}
use Rattle.steal.proofs.moving.take_in.Goals as goal

pub store_context-requires : goal.store_context-requires
store_context-requires c = record { image = c.requires.image; bounded = (omega (arith, c.requires.bounded.name, c.index-x.ensures)); context_fits = c.requires.context_fits }

pub returns-then-first_wins : goal.returns-then-first_wins
returns-then-first_wins c = first_in c.args.e c.args.q c.args.theft.runs c.args.w c.store_context.ensures c.index-x.ensures c.first_wins.ensures c.if-first_wins.true

pub queue_in-requires : goal.queue_in-requires
queue_in-requires c = record { image = c.requires.image; bounded = (c.requires.bounded, c.index-x.ensures); context_fits = c.requires.context_fits }

pub returns-in_err-queue_in : goal.returns-in_err-queue_in
returns-in_err-queue_in c = let p = err_from_is_err_and c.from_residual.result c.from_residual.ensures.1 in rw p.1 (later_full c.args.e c.args.q c.args.theft.runs c.args.w c.in_err-queue_in.ensures c.first_wins.ensures c.if-first_wins.false)

pub returns : goal.returns
returns c = later_in c.args.e c.args.q c.args.theft.runs c.args.w c.in_ok-queue_in.ensures c.first_wins.ensures c.if-first_wins.false
