use Rattle.wakeup.proofs.Entering.{entry_fits, joined}
use mathlib.Core.Path.{refl}
use Rattle.wakeup.proofs.enter.join.Goals as goal

pub insert_entry-requires : goal.insert_entry-requires
insert_entry-requires c = record { image = c.store_context.ensures.image refl; entry_fits = entry_fits _ _ _ c.args.e _ c.word-name.ensures c.weight_of-weight.ensures c.entry-entry.ensures c.requires.bounded }

pub returns : goal.returns
returns c = joined _ _ _ c.args.e _ c.word-name.ensures c.weight_of-weight.ensures c.entry-entry.ensures c.args.cpu.present c.store_context.ensures c.insert_entry.ensures
