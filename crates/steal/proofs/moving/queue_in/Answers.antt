use mathlib.Core.Path.{refl}
use Rattle.steal.proofs.AfterMove.{keyed_fits, entry_fits, queued}
use native.Mathlib.Omega.{arith}
use Rattle.steal.proofs.moving.queue_in.Goals as goal

pub store_context-requires : goal.store_context-requires
store_context-requires c = record { image = c.requires.image; bounded = (omega (arith, c.requires.bounded.0.name, c.requires.bounded.1)); context_fits = keyed_fits c.args.q c.with_new_key-keyed.ensures c.requires.context_fits }

pub insert_entry-requires : goal.insert_entry-requires
insert_entry-requires c = record { image = c.store_context.ensures.image refl; entry_fits = entry_fits c.args.q c.args.e c.entry-new.ensures c.requires.bounded.0 }

pub returns : goal.returns
returns c = queued c.args.e c.args.q c.args.cpu.present c.store_context.ensures c.insert_entry.ensures c.requires.bounded.1 c.with_new_key-keyed.ensures c.entry-new.ensures
