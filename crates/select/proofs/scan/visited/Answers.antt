use mathlib.Core.Path.{ap}
use Rattle.select_judge.specs.Values.{visit_of}
use Rattle.select.proofs.Visited.{visited_pass, visited_gone, visited_no_addr_space, visited_ready, visited_as, fits_as, grown_none, grown_given_up, grown_picked}
use native.Mathlib.Omega.{arith}
use Rattle.select.proofs.scan.visited.Goals as goal

pub returns-in-Pass : goal.returns-in-Pass
returns-in-Pass c = record { scans = visited_pass _ c.args.t c.args.w c.args.e _ c.requires.image (ap visit_of c.in-Pass.is); grown = grown_none c.requires.room }

pub give_up-requires : goal.give_up-requires
give_up-requires c = record { contexts_to_remove_bound = (c.requires.room.keys, c.requires.room.sum); weight_le_max_weight = c.requires.entry_fits.light }

pub returns-in-Gone : goal.returns-in-Gone
returns-in-Gone c = record { scans = visited_gone _ c.args.t c.args.w c.args.e _ c.requires.image (ap visit_of c.in-Gone.is) c.give_up.ensures.0 c.give_up.ensures.1; grown = grown_given_up c.requires.room _ c.give_up.ensures.0 c.requires.entry_fits.light }

pub give_up_blocked-requires : goal.give_up_blocked-requires
give_up_blocked-requires c = record { image = c.requires.image; entry_fits = c.requires.entry_fits; room = c.requires.room; context_fits = fits_as _ c.in-Blocked.is c.requires.visit_fits }

pub returns-in-Blocked : goal.returns-in-Blocked
returns-in-Blocked c = record { scans = visited_as c.args.d.now c.args.t c.args.w c.args.e _ c.requires.image (ap visit_of c.in-Blocked.is) c.give_up_blocked.ensures.scans; grown = c.give_up_blocked.ensures.grown }

pub store-requires : goal.store-requires
store-requires c = record { image = c.requires.image; x_lt_n = omega (arith, c.index-x.ensures, c.requires.entry_fits.name); context_fits = fits_as _ c.in-NoAddrSpace.is c.requires.visit_fits }

pub returns-in-NoAddrSpace : goal.returns-in-NoAddrSpace
returns-in-NoAddrSpace c = record { scans = visited_no_addr_space _ c.args.t c.args.w c.args.e _ c.requires.image _ c.index-x.ensures c.store.ensures (ap visit_of c.in-NoAddrSpace.is); grown = grown_none c.requires.room }

pub store-requires-in-Ready : goal.store-requires-in-Ready
store-requires-in-Ready c = record { image = c.requires.image; x_lt_n = omega (arith, c.index-x.ensures, c.requires.entry_fits.name); context_fits = fits_as _ c.in-Ready.is c.requires.visit_fits }

pub returns-in-Ready : goal.returns-in-Ready
returns-in-Ready c = record { scans = visited_ready _ c.args.t c.args.w c.args.e _ c.requires.image _ c.index-x.ensures c.store-in-Ready.ensures (ap visit_of c.in-Ready.is) c.pick.ensures; grown = grown_picked c.requires.room _ c.args.e c.requires.entry_fits.name c.pick.ensures }
