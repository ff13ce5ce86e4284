use Rattle.machine.proofs.Steps.{sized}
use Rattle.apart.proofs.Words.{lent_counted, apart_is}
use native.Mathlib.Omega.{arith}
use Rattle.apart.proofs.are_apart.Goals as goal

-- src/lib.rt:109:18
pub slice_bounds-blocks_apart-end : goal.slice_bounds-blocks_apart-end
slice_bounds-blocks_apart-end c = omega (arith, sized c.requires.image)

-- src/lib.rt:109:31
pub slice_bounds-blocks_apart-end-2 : goal.slice_bounds-blocks_apart-end-2
slice_bounds-blocks_apart-end-2 c = omega (arith, sized c.requires.image)

-- src/lib.rt:109:5
pub blocks_apart-requires : goal.blocks_apart-requires
blocks_apart-requires c = record { counted = lent_counted _ c.cpu_place-at.ensures c.requires.one_lt_c c.requires.image; counted_2 = lent_counted _ c.cpu_place-to.ensures c.requires.other_lt_c c.requires.image }

-- src/lib.rt:99:1
pub returns : goal.returns
returns c = λ M e o. apart_is _ _ c.cpu_place-at.ensures c.cpu_place-to.ensures c.requires.one_lt_c c.requires.other_lt_c M e o _ c.blocks_apart.ensures
