use mathlib.Core.Path.{◌∙◌}
use Rattle.machine.proofs.Places.{got_is}
use Rattle.machine.proofs.Steps.{sized}
use native.Mathlib.Omega.{arith}
use Rattle.machine.proofs.load.Goals as goal

pub slice_bounds-load_context-end : goal.slice_bounds-load_context-end
slice_bounds-load_context-end c = omega (arith, sized c.requires.image)

pub returns : goal.returns
returns c = λ M e o. c.load_context.ensures ∙ got_is _ _ c.context_place-at.ensures c.requires.x_lt_n M e o
