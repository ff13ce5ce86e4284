use mathlib.Core.Path.{refl}
use Rattle.machine.proofs.Places.{put_is}
use Rattle.machine.proofs.Steps.{sized, stepped, fits_context}
use native.Mathlib.Omega.{arith}
use Rattle.machine.proofs.store.Goals as goal

pub slice_bounds-store_context-end : goal.slice_bounds-store_context-end
slice_bounds-store_context-end c = omega (arith, sized c.requires.image)

pub returns : goal.returns
returns c = stepped c.requires.image (λ M e o. (put_is _ _ c.context_place-at.ensures c.requires.x_lt_n M e o _ _ c.store_context.ensures, fits_context M _ _ o c.requires.context_fits, refl))
