use Rattle.context_ops.proofs.Waking.{other_below}
use Rattle.context_ops.proofs.Operated.{woken_by}
use Rattle.context_ops.proofs.wakeup_context.Goals as goal

pub wakeup_on-requires : goal.wakeup_on-requires
wakeup_on-requires c = record { image = c.requires.image; bounded = c.requires.bounded; other = other_below c.requires.image _ _ _ c.other_cpu-other.ensures; context_fits = c.requires.context_fits }

pub returns : goal.returns
returns c = λ M e o. woken_by _ _ _ _ _ M _ o c.requires.bounded (c.other_cpu-other.ensures M e o) (c.wakeup_on.ensures M e o)
