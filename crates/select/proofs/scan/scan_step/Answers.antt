use Rattle.select.proofs.Walking.{step_is}
use Rattle.select.proofs.Visited.{scans_as}
use Rattle.select.proofs.Visiting.{verdict_fits}
use Rattle.select.proofs.scan.scan_step.Goals as goal

pub verdict-v-requires : goal.verdict-v-requires
verdict-v-requires c = record { image = c.requires.image; cpu_id_bound = (c.requires.cpu_id_bound, c.requires.entry_fits.name) }

pub visited-requires : goal.visited-requires
visited-requires c = record { image = c.requires.image; entry_fits = c.requires.entry_fits; room = c.requires.room; visit_fits = verdict_fits c.requires.image c.args.t c.args.w.ineligible_best c.args.e c.requires.entry_fits.name c.verdict-v.ensures }

pub returns : goal.returns
returns c = record { scans = scans_as c.visited.ensures.scans (λ M e o. step_is c.args.t M.contexts c.args.w c.args.d.now c.args.e c.requires.room.nobody (c.verdict-v.ensures M e o)); grown = c.visited.ensures.grown }
