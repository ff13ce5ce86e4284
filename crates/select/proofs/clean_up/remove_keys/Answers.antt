use mathlib.Core.Path.{refl}
use Rattle.select.proofs.Cleaning.{remove_none, remove_next, remove_all}
use Rattle.select.proofs.clean_up.remove_keys.Goals as goal

pub loop-key-init : goal.loop-key-init
loop-key-init c = remove_none c.requires.image

pub remove_key-requires : goal.remove_key-requires
remove_key-requires c = record { image = c.loop-key.invariant.image refl }

pub loop-key-preserved : goal.loop-key-preserved
loop-key-preserved c = remove_next _ _ _ c.args.cpu.present c.loop-key-test.true c.loop-key.invariant c.remove_key.ensures

pub returns : goal.returns
returns c = remove_all _ c.loop-key-test.false c.loop-key.invariant
