use mathlib.Core.Path.{ap}
use Rattle.refusal.specs.Number.{numbered}
use Rattle.run.proofs.Knowing.{refused_makes, check_says}
use Rattle.run.proofs.knowledge.checked.Goals as goal

-- src/knowledge.rt:86:34
pub measured-requires : goal.measured-requires
measured-requires c = check_says _ _ _ _ _ c.check.ensures (ap numbered c.in-Ok.is)

-- src/knowledge.rt:77:1
pub returns-in-Err : goal.returns-in-Err
returns-in-Err c = refused_makes _ _ _ _ _ _ c.check.ensures (ap numbered c.in-Err.is) c.refused.ensures

-- src/knowledge.rt:77:1
pub returns-in-Ok : goal.returns-in-Ok
returns-in-Ok c = c.measured.ensures
