use mathlib.Core.Path.{refl}
use Rattle.select.proofs.Visited.{visited_blocked, grown_given_up}
use native.Mathlib.Omega.{arith}
use Rattle.select.proofs.scan.give_up_blocked.Goals as goal

pub give_up-requires : goal.give_up-requires
give_up-requires c = record { contexts_to_remove_bound = (c.requires.room.keys, c.requires.room.sum); weight_le_max_weight = omega (arith, c.active_weight-weight.ensures.1, c.requires.entry_fits.light) }

pub returns : goal.returns
returns c = record { scans = visited_blocked _ c.args.t c.args.w c.args.e _ c.requires.image _ c.index-x.ensures c.store.ensures refl c.load-old.ensures c.active_weight-weight.ensures.0 c.give_up.ensures.0 c.give_up.ensures.1; grown = grown_given_up c.requires.room _ c.give_up.ensures.0 (omega (arith, c.active_weight-weight.ensures.1, c.requires.entry_fits.light)) }
