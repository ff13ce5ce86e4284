use Rattle.plain_scan.specs.Scanned.{record_in}
use mathlib.Core.Path.{◌∙◌, ap}
use Rattle.plain_scan.proofs.Scanning.{step_passes, step_looks}
use Rattle.plain_scan.proofs.Scan.step.Goals as goal

pub returns-then-passes_over : goal.returns-then-passes_over
returns-then-passes_over c = step_passes c.args.n c.args.t c.args.e c.args.self c.requires.sound c.passes_over.ensures c.if-passes_over.true

pub returns : goal.returns
returns c = step_looks c.args.n c.args.t c.args.e c.args.self c.visit-v.result c.record-q.result c.passes_over.ensures c.if-passes_over.false (c.record-q.ensures ∙ ap (record_in c.args.n c.args.self) c.index-x.ensures) c.visit-v.ensures c.look_at.ensures
