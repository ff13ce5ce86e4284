use Rattle.wakeup.proofs.Judged.{as_dropped, as_locked, as_woken, as_entered, record_woken, record_entered}
use native.Mathlib.Omega.{arith}
use Rattle.wakeup.proofs.serve_as.Goals as goal

pub returns-in-Dropped : goal.returns-in-Dropped
returns-in-Dropped c = as_dropped c.args.w c.args.r c.requires.image c.in-Dropped.is

pub returns-in-Locked : goal.returns-in-Locked
returns-in-Locked c = as_locked c.args.w c.args.r c.in-Locked.is c.put_again.ensures

pub store_context-requires : goal.store_context-requires
store_context-requires c = record { image = c.requires.image; bounded = (omega (arith, c.index-x.ensures, c.requires.bounded.0)); context_fits = (record_woken _ c.in-WokenOnly.is c.requires.bounded.1).fits }

pub returns-in-WokenOnly : goal.returns-in-WokenOnly
returns-in-WokenOnly c = as_woken c.args.w c.args.r _ _ c.index-x.ensures c.in-WokenOnly.is c.store_context.ensures

pub enter_queue-requires : goal.enter_queue-requires
enter_queue-requires c = record { image = c.requires.image; bounded = (omega (arith, c.index-x.ensures, c.requires.bounded.0), record_entered _ c.in-Entered.is c.requires.bounded.1); paced = c.requires.paced }

pub returns-in-Entered : goal.returns-in-Entered
returns-in-Entered c = as_entered c.args.w c.args.r _ _ c.index-x.ensures c.in-Entered.is c.enter_queue.ensures
