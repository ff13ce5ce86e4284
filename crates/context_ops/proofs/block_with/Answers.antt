use mathlib.Core.Path.{ap}
use Rattle.refusal.specs.Number.{numbered}
use Rattle.context_ops.proofs.Operated.{refused_call, found_call, found_below}
use Rattle.context_ops.proofs.block_with.Goals as goal

pub block_live-requires : goal.block_live-requires
block_live-requires c = record { image = c.requires; x_lt_n = (found_below c.requires _ _ _ _ _ c.resolve.ensures (ap numbered c.in-Ok.is)).1 }

pub returns-in-Err : goal.returns-in-Err
returns-in-Err c = λ M e o. refused_call _ _ _ _ _ (c.resolve.ensures M e o) (ap numbered c.in-Err.is) c.refused.ensures

pub returns-in-Ok : goal.returns-in-Ok
returns-in-Ok c = λ M e o. found_call _ _ _ _ _ _ (c.resolve.ensures M e o) (ap numbered c.in-Ok.is) (c.block_live.ensures M e o)
