use Rattle.wakeup.proofs.Judged.{back_timer, back_name}
use Rattle.wakeup.proofs.put_again.Goals as goal

pub returns-in-Some : goal.returns-in-Some
returns-in-Some c = back_timer c.args.w _ c.in-Some.is c.insert_timer.ensures

pub returns-in-None : goal.returns-in-None
returns-in-None c = back_name c.args.w _ c.in-None.is c.index-x.ensures c.push_local.ensures
