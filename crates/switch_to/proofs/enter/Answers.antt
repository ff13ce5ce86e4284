-- `switch_to::enter` meets its contract. Assumes nothing.
use mathlib.Core.Path.{refl}
use native.Mathlib.Omega.{arith}
use Rattle.stages.proofs.Reading.{context_fits}
use Rattle.switch_to.proofs.Switching.{entered_as}
use Rattle.switch_to.proofs.Recorded.{comes_fits, current_fits}
use Rattle.switch_to.proofs.enter.Goals as goal

pub come-after-requires : goal.come-after-requires
come-after-requires c = omega (arith, c.args.cpu.present, c.requires.image.fits.bounds.1)

pub store_context-requires : goal.store_context-requires
store_context-requires c = record { image = c.requires.image; bounded = c.requires.bounded; context_fits = comes_fits _ c.args.time _ c.come-after.ensures c.args.cpu.present (context_fits c.requires.image _ c.requires.bounded c.load-q.ensures) }

pub store_block-requires : goal.store_block-requires
store_block-requires c = record { image = c.store_context.ensures.image refl; block_fits = current_fits c.args.b c.come-after.result _ c.become_current-block.ensures c.requires.bounded c.requires.block_fits }

pub returns : goal.returns
returns c = entered_as c.args.time c.args.x c.args.b _ c.args.cpu.present c.load-q.ensures c.come-after.ensures c.become_current-block.ensures c.store_context.ensures c.store_block.ensures
