use Rattle.steal.proofs.AfterMove.{stolen_fits, stolen_as}
use Rattle.steal.proofs.Movable.{movable_sum}
use Rattle.steal.proofs.moving.stolen.Goals as goal

pub moved-requires : goal.moved-requires
moved-requires c = ((movable_sum c.requires.movable _ _ _ c.requires.bounded.0 (c.load_block-here.ensures _ c.requires.movable.eq c.requires.movable.fits) (c.load-q.ensures _ c.requires.movable.eq c.requires.movable.fits)).0, c.requires.bounded.1, (movable_sum c.requires.movable _ _ _ c.requires.bounded.0 (c.load_block-here.ensures _ c.requires.movable.eq c.requires.movable.fits) (c.load-q.ensures _ c.requires.movable.eq c.requires.movable.fits)).1)

pub returns : goal.returns
returns c = (stolen_fits _ _ _ _ _ c.requires.image c.requires.bounded.0 (c.load-q.ensures _ c.requires.image.eq c.requires.image.fits) c.moved.ensures, λ M e o. stolen_as c.load_block-here.result c.load_block-there.result _ _ M _ _ _ c.moved.ensures (c.load_block-here.ensures M e o) (c.load_block-there.ensures M e o) (c.load-q.ensures M e o))
