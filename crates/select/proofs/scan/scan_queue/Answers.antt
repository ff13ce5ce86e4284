use mathlib.Core.Path.{refl, sym, ◌∙◌}
use Rattle.select.proofs.Walking.{loop_count, loop_room, loop_found, loop_end, loop_scans, loop_next, scanned_none, scanned_best, scanned_all}
use native.Mathlib.Omega.{arith}
use Rattle.select.proofs.scan.scan_queue.Goals as goal

pub loop-i-init : goal.loop-i-init
loop-i-init c = record { few = c.queue_len-len.ensures.1; same = refl; size = omega arith; keys = omega arith; sum = omega arith; nobody = refl; late = tt; scans = scanned_none _ _ c.requires.image }

pub entry-e-requires : goal.entry-e-requires
entry-e-requires c = record { image = c.loop-i.invariant.scans.image; bounded = (loop_count c.loop-i.invariant c.args.cpu.present c.requires.image c.queue_len-len.ensures.2 c.loop-i-test.true) }

pub scan_step-w-requires : goal.scan_step-w-requires
scan_step-w-requires c = record { image = c.loop-i.invariant.scans.image; entry_fits = c.entry-e.ensures.fits; room = loop_room c.loop-i.invariant c.loop-i-test.true; cpu_id_bound = c.requires.bounded }

pub returns-then-is_found : goal.returns-then-is_found
returns-then-is_found c = record { scans = scanned_best _ _ _ (sym c.is_found.ensures ∙ c.if-is_found.true) (loop_scans c.queue_len-len.ensures.2 c.loop-i.invariant c.loop-i-test.true c.entry-e.ensures.is c.scan_step-w.ensures.scans); contexts_to_remove_bound = loop_found c.loop-i.invariant c.loop-i-test.true c.scan_step-w.ensures.grown }

pub loop-i-preserved : goal.loop-i-preserved
loop-i-preserved c = loop_next c.queue_len-len.ensures.2 c.loop-i.invariant c.loop-i-test.true c.entry-e.ensures.is c.scan_step-w.ensures.scans c.scan_step-w.ensures.grown (omega arith) (omega arith) (sym c.is_found.ensures ∙ c.if-is_found.false)

pub returns : goal.returns
returns c = record { scans = scanned_all _ _ _ (λ M e o. omega (arith, c.queue_len-len.ensures.2 M e o, c.loop-i-test.false)) c.loop-i.invariant.scans; contexts_to_remove_bound = loop_end c.loop-i.invariant c.loop-i.auto.i-end }
