use Rattle.select.proofs.Selecting.{scanning}
use Rattle.select.proofs.read.scanner.Goals as goal

pub returns : goal.returns
returns c = record { scanning = λ s hb H. scanning _ _ _ _ c.word-cpu_id.ensures s hb (c.ineligible_holder.ensures s H); cpu_id_value = c.word-cpu_id.ensures }
