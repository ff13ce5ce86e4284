use mathlib.Core.Path.{ap}
use Rattle.refusal.specs.Number.{numbered}
use Rattle.context_ops.proofs.Operated.{refused_call, found_call, found_below}
use Rattle.context_ops.proofs.unblock_context.Goals as goal

pub invariant_of-unblock : goal.invariant_of-unblock
invariant_of-unblock c = record { present = (found_below c.requires _ _ _ _ _ c.resolve.ensures (ap numbered c.in-Ok.is)).0 }

pub unblock-requires : goal.unblock-requires
unblock-requires c = record { image = c.requires; bounded = (found_below c.requires _ _ _ _ _ c.resolve.ensures (ap numbered c.in-Ok.is)).1 }

pub returns-in-Err : goal.returns-in-Err
returns-in-Err c = λ M e o. refused_call _ _ _ _ _ (c.resolve.ensures M e o) (ap numbered c.in-Err.is) c.refused.ensures

pub returns-in-Ok : goal.returns-in-Ok
returns-in-Ok c = λ M e o. found_call _ _ _ _ _ _ (c.resolve.ensures M e o) (ap numbered c.in-Ok.is) (c.unblock.ensures M e o)
