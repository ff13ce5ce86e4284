use Rattle.plain_scan.proofs.Running.{runs}
use Rattle.plain_scan.proofs.Scan.run.Goals as goal

pub loop-e-init : goal.loop-e-init
loop-e-init c = runs _ _ _ c.args.q _ _ c.requires.sound.0 c.requires.len_value.0 c.requires.len_value.1 c.requires.len_value.2 c.by_rank-turns.ensures c.as_slice_sized-e-items.ensures
