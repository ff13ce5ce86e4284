use lib.ListN.{length-take}
use Rattle.wakeup.proofs.Serving.{read_named, whole, drained_paced}
use mathlib.Core.Path.{refl}
use native.Mathlib.Omega.{arith}
use Rattle.wakeup.proofs.serve_wakeups.Goals as goal

pub serve_all-requires : goal.serve_all-requires
serve_all-requires c = record { image = c.drain.ensures.image refl; bounded = (simp length-take (omega arith), read_named _ _ _ c.args.cpu.present c.read_wakeups-len.ensures.1 c.requires.image); paced = drained_paced _ c.args.cpu.present c.requires.ranged c.drain.ensures }

pub returns : goal.returns
returns c = whole _ _ _ c.args.cpu.present c.read_wakeups-len.ensures.1 c.drain.ensures c.serve_all.ensures
