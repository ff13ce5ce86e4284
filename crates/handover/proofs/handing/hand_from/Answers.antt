-- `handover::handing::hand_from` meets its contract. Assumes nothing.
use mathlib.Core.Path.{refl}
use Rattle.handover.proofs.Handed.{given_fits, handed_from}
use Rattle.handover.proofs.handing.hand_from.Goals as goal

pub store_context-requires : goal.store_context-requires
store_context-requires c = record { image = c.requires.image; bounded = (c.requires.bounded.1); context_fits = given_fits c.args.q c.args.time c.args.was_idle c.give_up-after.ensures c.requires.context_fits }

pub take_over-requires : goal.take_over-requires
take_over-requires c = record { image = c.store_context.ensures.image refl; bounded = (c.requires.bounded.0); block_fits = c.requires.block_fits }

pub returns : goal.returns
returns c = handed_from c.args.time c.args.was_idle c.args.x c.args.y c.args.b c.args.q c.args.cpu.present c.give_up-after.ensures c.store_context.ensures c.take_over.ensures
