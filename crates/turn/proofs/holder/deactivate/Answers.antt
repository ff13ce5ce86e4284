-- `turn::charging::deactivate` meets its contract. Assumes nothing.
use mathlib.Core.Path.{refl, sym, subst}
use Rattle.stages.specs.Read.{BlockFits}
use Rattle.machine.specs.Shape.{ContextFits}
use Rattle.turn.proofs.Charged.{weight_left_fits, stopped_fits, deactivated}
use Rattle.turn.proofs.holder.deactivate.Goals as goal

pub store_block-requires : goal.store_block-requires
store_block-requires c = record { image = c.requires.image; block_fits = subst (BlockFits _) (sym c.leave_weight-after.ensures) (weight_left_fits c.args.b c.args.q c.requires.block_fits) }

pub store_context-requires : goal.store_context-requires
store_context-requires c = record { image = c.store_block.ensures.image refl; bounded = c.requires.bounded; context_fits = subst (ContextFits _) (sym c.charge_stopped-stopped.ensures) (stopped_fits c.args.q c.requires.context_fits) }

pub returns : goal.returns
returns c = deactivated c.args.x c.args.b c.args.q c.args.cpu.present c.leave_weight-after.ensures c.charge_stopped-stopped.ensures c.store_block.ensures c.store_context.ensures
