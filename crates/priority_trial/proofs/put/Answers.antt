use Rattle.priority_trial.proofs.Trying.{prio_fits, placed}
use Rattle.priority_trial.proofs.put.Goals as goal

-- src/lib.rt:24:9
pub wakeup_on-a-requires : goal.wakeup_on-a-requires
wakeup_on-a-requires c = record { image = c.requires.image; bounded = (c.requires.bounded.0); other = tt; context_fits = prio_fits c.requires.image _ _ _ c.requires.bounded.0 c.requires.bounded.1 c.load-q.ensures }

-- src/lib.rt:17:1
pub returns : goal.returns
returns c = λ M e o. placed _ _ _ _ _ M (c.load-q.ensures M e o) (c.wakeup_on-a.ensures M e o)
