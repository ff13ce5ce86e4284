use Rattle.window.proofs.Adding.{drops_size}
use Rattle.columns.specs.Blocks.{part, splice}
use Rattle.window.proofs.Adding.{drops}
use Rattle.window.proofs.drop_oldest.Goals as goal

pub shape_of-w : goal.shape_of-w
unfolding part splice
shape_of-w c = drops_size c.args.w.now _ _ c.requires c.remove_at.ensures _ c.word.ensures c.remove_at-2.ensures

pub returns : goal.returns
unfolding part splice
returns c = drops c.args.w.now _ _ c.requires c.remove_at.ensures _ c.word.ensures c.remove_at-2.ensures
