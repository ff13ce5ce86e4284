use Rattle.plain_state.specs.States.{state_in}
use mathlib.Core.Path.{refl}
use Rattle.plain_select.proofs.Scanning.{scanned_all}
use Rattle.plain_select.proofs.scan.Goals as goal

pub returns : goal.returns
returns c = scanned_all c.args.n c.args.k c.args.time c.args.s c.scanner-t.result (c.scanner-t.ensures.scanning (state_in c.args.n c.args.s) refl c.requires.holding) c.start.ensures c.run.ensures
