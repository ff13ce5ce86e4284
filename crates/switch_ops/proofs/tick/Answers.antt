use Rattle.switch_ops.proofs.Answered.{tick_no_target}
use Rattle.switch_ops.proofs.tick.Goals as goal

pub decide-requires : goal.decide-requires
decide-requires c = record { image = c.requires.image; time_le_max_number = c.requires.time_le_max_number; target_below = tick_no_target; ranged = c.requires.ranged }
