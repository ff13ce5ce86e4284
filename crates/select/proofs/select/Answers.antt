use Rattle.model.specs.State.{state_of}
use Rattle.select.proofs.Selecting.{sched_below, select_rule, select_then}
use native.Mathlib.Omega.{arith}
use Rattle.select.proofs.select.Goals as goal

pub holder-h-requires : goal.holder-h-requires
holder-h-requires c = record { image = c.requires.image; sched_ctxt_bound = sched_below c.requires.image _ c.args.cpu.present c.load_block-b.ensures }

pub scan_queue-w-requires : goal.scan_queue-w-requires
scan_queue-w-requires c = record { image = c.requires.image; bounded = (omega (arith, c.scanner-t.ensures.cpu_id_value, c.args.cpu.present, c.requires.image.fits.bounds.1)) }

pub apply_choice-requires : goal.apply_choice-requires
apply_choice-requires c = record { image = c.scan_queue-w.ensures.scans.image; bounded = c.scan_queue-w.ensures.contexts_to_remove_bound.0; best_below = (c.scan_queue-w.ensures.contexts_to_remove_bound.1, c.scan_queue-w.ensures.contexts_to_remove_bound.2) }

pub returns : goal.returns
returns c = record { stage = select_then _ _ _ _ _ c.requires.image c.args.cpu.present (λ M e o. c.holder-h.ensures M e o (c.load_block-b.ensures M e o)) (λ M e o. c.scanner-t.ensures.scanning (state_of _ M) (c.load_block-b.ensures M e o) (c.holder-h.ensures M e o (c.load_block-b.ensures M e o))) c.scan_queue-w.ensures.scans c.apply_choice.ensures.stage; winner_below = c.apply_choice.ensures.winner_below; rule_value = select_rule _ _ _ _ _ (λ M e o. c.holder-h.ensures M e o (c.load_block-b.ensures M e o)) (λ M e o. c.scanner-t.ensures.scanning (state_of _ M) (c.load_block-b.ensures M e o) (c.holder-h.ensures M e o (c.load_block-b.ensures M e o))) c.scan_queue-w.ensures.scans c.apply_choice.ensures.rule_value }
