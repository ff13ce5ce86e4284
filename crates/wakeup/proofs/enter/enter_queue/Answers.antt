use Rattle.wakeup.proofs.Entering.{may_join, entering_fits, entered_staged}
use mathlib.Core.Path.{refl}
use Rattle.wakeup.proofs.enter.enter_queue.Goals as goal

pub enter_record-e-requires : goal.enter_record-e-requires
enter_record-e-requires c = may_join _ c.load_block-b.ensures c.requires.bounded.1 c.requires.paced

pub activate-requires : goal.activate-requires
activate-requires c = record { image = c.requires.image; bounded = (c.requires.bounded.1); paced = c.requires.paced }

pub remove_old_key-requires : goal.remove_old_key-requires
remove_old_key-requires c = record { image = c.activate.ensures.image refl }

pub join-requires : goal.join-requires
join-requires c = record { image = c.remove_old_key.ensures.image refl; bounded = (c.requires.bounded.0); context_fits = entering_fits _ c.args.q _ c.requires.bounded.1 c.enter_record-e.ensures }

pub returns : goal.returns
returns c = entered_staged _ c.args.q _ _ c.args.cpu.present c.load_block-b.ensures c.enter_record-e.ensures c.activate.ensures c.remove_old_key.ensures c.join.ensures
